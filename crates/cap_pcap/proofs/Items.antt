-- The items of some bytes after a header, by what stands at their front.
use Rattle.std.proofs.Common.{◌≡◌, ℕ, ◌+◌, List, [], ◌∷◌, drop, Some, None, arith}
use Rattle.cap_bytes.specs.Items.{given, stopped}
use Rattle.cap_bytes.specs.declared.faults.Tail.{Tail}
use Rattle.cap_bytes.specs.declared.stops.Stop.{Stop}
use Rattle.cap_bytes.specs.declared.stops.Stop.TheVariants as stops
use Rattle.cap_bytes.proofs.Items as items
use Rattle.cap_bytes.proofs.Items.{Advances, stop_where-end, stop_where-fault, not_empty}
use Rattle.cap_pcap.specs.Split.{captured_at, record_at, record_frame_at, record_stop_at, records, record_items_from}
use Rattle.cap_pcap.specs.declared.headers.PcapHeader.{PcapHeader}
use Rattle.cap_pcap.proofs.Faults.{Fits-from_stop_at}

advances : Advances records
advances header tail file offset bytes is = grind (arith, Fits-from_stop_at)

-- If something ends the records, that is the one item.
pub items_from-stop : (header : PcapHeader) (tail : Tail) (file offset : ℕ) (bytes : List ℕ) (stop : Stop)
    → record_stop_at header.order tail file offset bytes ≡ Some stop
    → record_items_from header tail file offset bytes ≡ stopped stop ∷ []
items_from-stop header tail file offset bytes stop is =
    items.items_in-stop records tail file header offset bytes stop is

-- At no bytes the records end.
pub items_from-none : (header : PcapHeader) (tail : Tail) (file offset : ℕ)
    → record_items_from header tail file offset [] ≡ stopped stops.End ∷ []
items_from-none header tail file offset = search (items_from-stop, stop_where-end)

-- A record is the first item, and those of the bytes after it follow.
pub items_from-record : (header : PcapHeader) (tail : Tail) (file offset : ℕ) (bytes : List ℕ)
    → record_stop_at header.order tail file offset bytes ≡ None
    → record_items_from header tail file offset bytes ≡ given (record_at header.order header.unit offset bytes)
    (record_frame_at header.order bytes)
    ∷ record_items_from header tail file (offset + (16 + captured_at header.order bytes))
    (drop (16 + captured_at header.order bytes) bytes)
items_from-record header tail file offset bytes is =
    items.items_in-piece records tail file advances header offset bytes is
