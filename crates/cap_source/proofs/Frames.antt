-- Each packet of a file has as many captured bytes as are told.
use Rattle.std.proofs.lemmas.Bool.Decides.{nat_tests}
use Rattle.std.proofs.lemmas.Grind.{common_steps}
use Rattle.std.proofs.Common.{◌≡◌, ℕ, ◌+◌, ◌≤◌, List, ◌∷◌, length, length-drop, drop, Option, Some, None, Result, refl}
use Rattle.std.proofs.Common.{sym, ◌∙◌, subst, arith}
use Rattle.std.proofs.lemmas.List.{length-take-le}
use Rattle.std.specs.List.{AllByRecursion}
use Rattle.cap_blocks.specs.declared.blocks.Block.{Block}
use Rattle.cap_bytes.specs.Items as pieces
use Rattle.cap_bytes.specs.declared.stops.Stop.{Stop}
use Rattle.cap_bytes.specs.declared.faults.Rule.{Rule}
use Rattle.cap_bytes.specs.declared.faults.Tail.{Tail}
use Rattle.cap_bytes.specs.declared.numbers.Order.{Order}
use Rattle.cap_pcap.proofs.Splitting.{every_split-law, split_items-law}
use Rattle.cap_pcap.specs.Grammar.{Packet as Record, packet_size}
use Rattle.cap_pcap.specs.Split as records
use Rattle.cap_pcap.specs.Split.{SplitsRecords}
use Rattle.cap_source.proofs.Blocks.{IsFit, content_fit}
use Rattle.cap_source.specs.Contents.{content_in}
use Rattle.cap_source.specs.Feed.{Item}
use Rattle.cap_source.specs.inner.Fields.{HasFrame, IsFrame, FramesFit}
use Rattle.cap_source.specs.Items.{SectionProgress, behind, frame_in, meta_in, items_at_block, items_of_blocks}
use Rattle.cap_source.specs.Items.{items_of_stop}
use Rattle.cap_source.specs.Items.{items_from}
use Rattle.cap_source.specs.Items.{pcap_items, interface_of}
use Rattle.cap_source.specs.declared.contents.BlockContent.{BlockContent}
use Rattle.cap_source.specs.declared.contents.BlockPacket.{BlockPacket}
use Rattle.cap_time.specs.declared.resolutions.Interface.{Interface}
use Rattle.cap_time.specs.declared.stamps.Unit.{Unit as Fraction}

-- ---- blocks

-- the captured bytes of a packet that is within its body
pub block-frame : (file : ℕ) (progress : SectionProgress) (block : Block) (p : BlockPacket) (body : List ℕ)
    → (p.place + p.captured ≤ length body) × (p.captured ≤ 262144)
    → IsFrame (meta_in file progress block p) (frame_in p body)
block-frame file progress block p body within = grind (arith, length-take-le, drop, length-drop)

block-frames : (file few : ℕ) (progress : SectionProgress) (block : Block) (body : List ℕ)
    (content : Result BlockContent Rule)
    (items : List Item)
    → IsFit few body content → AllByRecursion HasFrame items
    → AllByRecursion HasFrame (items_at_block file progress block body content items)
block-frames file few progress block body content items within rest =
    grind (arith, common_steps, nat_tests, block-frame)

stop-frames : (stop : Stop) → AllByRecursion HasFrame (items_of_stop stop)
stop-frames stop = grind arith

blocks-frames : (file : ℕ) (progress : SectionProgress) (items : List (pieces.PieceItem Block))
    → AllByRecursion HasFrame (items_of_blocks file progress items)
unfolding items_of_blocks
blocks-frames file progress (pieces.given block body ∷ rest) =
    let content = content_in progress.interfaces block.kind block.order body in
    block-frames file (length progress.interfaces) progress block body content
    (items_of_blocks file (behind progress content) rest)
    (content_fit progress.interfaces block.kind block.order body) (blocks-frames file (behind progress content) rest)
blocks-frames file progress items = grind (arith, stop-frames)

-- ---- records

records-frames : (file : ℕ) (i : Interface) (order : Order) (unit : Fraction) (offset : ℕ) (bytes : List ℕ)
    (packets : List Record) (rest : List ℕ) (stop : Stop)
    → SplitsRecords order unit offset bytes packets rest → AllByRecursion HasFrame
    (pcap_items file i (records.record_items_with offset packets stop))
unfolding pcap_items
records-frames file i order unit offset bytes (p ∷ ps) rest stop s =
    grind (
      arith,
      records-frames file i order unit (offset + packet_size p)
          (drop (packet_size p) bytes) ps rest stop s.2,
    )
records-frames file i order unit offset bytes packets rest stop s = grind arith

pub read_header : (tail : Tail) (file : ℕ) (bytes : List ℕ) → records.pcap_header_fault 0 bytes ≡ None
    → records.pcap_file_items tail file 0 bytes ≡ records.record_items_from (records.header_at bytes) tail file 24
    (drop 24 bytes)
unfolding records.pcap_file_items
read_header tail file bytes is = rw is refl

pcap-frames : (tail : Tail) (file : ℕ) (bytes : List ℕ)
    → AllByRecursion HasFrame (pcap_items file (interface_of (records.header_at bytes))
    (records.pcap_file_items tail file 0 bytes))
unfolding records.pcap_file_items pcap_items
pcap-frames tail file bytes = by (records.pcap_header_fault 0 bytes) refl
  where
    by : (fault : Option Rule) → records.pcap_header_fault 0 bytes ≡ fault
        → AllByRecursion HasFrame (pcap_items file (interface_of (records.header_at bytes))
        (records.pcap_file_items tail file 0 bytes))
    by (Some rule) is = rw is ((tt, tt))
    by None is =
        let header = records.header_at bytes in
        let split = every_split-law header.order header.unit 24 (drop 24 bytes) in
        let whole = split_items-law header tail file 24 (drop 24 bytes) split.0 split.1 split.2 in
        subst (λ items. AllByRecursion HasFrame (pcap_items file (interface_of header) items))
        (sym (read_header tail file bytes is ∙ whole.2))
        (records-frames file (interface_of header) header.order header.unit 24
        (drop 24 bytes) split.0 split.1 whole.0 split.2)

-- ---- files

pub frames_fit-law : FramesFit
unfolding items_from
frames_fit-law tail file bytes = grind (arith, blocks-frames, pcap-frames)
