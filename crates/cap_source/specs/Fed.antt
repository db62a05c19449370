-- A capture whose bytes are fed piece by piece: the packets that still come of it and how it ends, whatever bytes are
-- fed later.
use Rattle.std.specs.Prelude.{◌≡◌, ◌+◌, ◌-◌, ◌==◌, ℕ, nat_lt, if◌then◌else◌, Bool, true, false, IsTrue, List, []}
use Rattle.std.specs.Prelude.{◌∷◌, ◌++◌, length, drop, Option, Some, None}
use Rattle.cap_blocks.specs.Split.{block_items_from}
use Rattle.cap_blocks.specs.declared.blocks.Block.{Block}
use Rattle.cap_bytes.specs.Items.{stop_by}
use Rattle.cap_bytes.specs.Items as pieces
use Rattle.cap_bytes.specs.Number.{number}
use Rattle.cap_bytes.specs.declared.faults.Rule.TheVariants.{BlockTrailer, Cut}
use Rattle.cap_bytes.specs.declared.faults.Tail.{Tail}
use Rattle.cap_bytes.specs.declared.formats.Format.{Format}
use Rattle.cap_bytes.specs.declared.formats.Format.TheVariants.{Pcap, Pcapng}
use Rattle.cap_bytes.specs.declared.stops.CutRest.{CutRest}
use Rattle.cap_bytes.specs.declared.stops.Stop.{Stop}
use Rattle.cap_bytes.specs.declared.stops.Stop.TheVariants as stops
use Rattle.cap_pcap.specs.Split.{record_items_from}
use Rattle.cap_pcap.specs.declared.records.Record.{Record}
use Rattle.cap_source.specs.Feed.{Item, packet}
use Rattle.cap_source.specs.Items.{SectionProgress, after, ending_from, ending_in, ending_with, file_ending}
use Rattle.cap_source.specs.Items.{file_items, interface_of, items_from, items_of_blocks, items_of_stop, pcap_ending}
use Rattle.cap_source.specs.Items.{pcap_ending_with, pcap_items}
use Rattle.cap_source.specs.declared.contents.BlockContent.TheVariants as contents
use Rattle.cap_source.specs.declared.feeds.FileEnd.{FileEnd}
use Rattle.cap_source.specs.declared.packets.Meta.{Meta}
use Rattle.cap_time.specs.declared.resolutions.Interface.{Interface}
use Rattle.cap_source.specs.declared.fed.Stage.{Stage}
use Rattle.cap_source.specs.declared.fed.Stage.TheVariants.{Start, Records, Blocks, Skipping, Stopped}

-- How far a capture was read that is fed: the number of its file, what becomes of a cut end, whether all bytes were
-- fed, where the next record or block begins or that which is being skipped, where the next bytes stand, and what is
-- known of its interfaces and blocks.
pub record PushView : Type 0 where
  pub file : ℕ
  pub tail : Tail
  pub ended : Bool
  pub offset : ℕ
  pub stage : Stage
  pub progress : SectionProgress

-- what still comes of a capture: its items, and how it ends
pub record FedRest : Type 0 where
  pub items : List Item
  pub ending : FileEnd

-- the same of a whole file
abbrev pub file_rest : Tail → ℕ → List ℕ → FedRest
file_rest tail file bytes = record { items = file_items tail file bytes; ending = file_ending tail file bytes }

-- a packet, and what comes after it
abbrev pub packet_then : Meta → List ℕ → FedRest → FedRest
packet_then meta frame rest = record { items = packet meta frame ∷ rest.items; ending = rest.ending }

-- the rest of a pcapng file, by the blocks that it splits into, and that of a pcap file, by its records
abbrev pub rest_of_blocks : ℕ → SectionProgress → List (pieces.PieceItem Block) → FedRest
rest_of_blocks file progress blocks =
    record { items = items_of_blocks file progress blocks; ending = ending_in progress blocks }

abbrev pub rest_of_records : ℕ → Interface → List (pieces.PieceItem Record) → FedRest
rest_of_records file interface records =
    record { items = pcap_items file interface records; ending = pcap_ending records }

-- how a file of that format ends that was read so far, with the rest of it that was dropped
abbrev pub format_ending : Format → SectionProgress → Option CutRest → FileEnd
format_ending Pcap progress cut = pcap_ending_with cut
format_ending Pcapng progress cut = ending_with progress cut

-- what comes where that ends the file
abbrev pub rest_of_stop : Format → SectionProgress → Stop → FedRest
rest_of_stop format progress stop =
    record { items = items_of_stop stop; ending = format_ending format progress (pieces.cut_of stop) }

-- what comes of a file whose bytes begin at `offset`
abbrev pub rest_from : Tail → ℕ → SectionProgress → ℕ → List ℕ → FedRest
rest_from tail file progress offset bytes =
    record {
      items = items_from tail file progress offset bytes;
      ending = ending_from tail file progress offset bytes;
    }

-- what comes of a pcapng file from within a block on that is skipped, whose trailer comes after `left` of these bytes
unfoldable pub skipped_rest : ℕ → Tail → SectionProgress → Block → ℕ → List ℕ → FedRest
skipped_rest file tail progress block left bytes =
    if nat_lt (length bytes) (left + 4) then
    rest_of_stop Pcapng progress (stop_by true tail file block.offset (block.total - 4 - left + length bytes) Cut) else
    if number block.order 4 (drop left bytes) == block.total
    then rest_of_blocks file (after progress (contents.Other block.kind))
    (block_items_from (Some block.order) tail file (block.offset + block.total) (drop (left + 4) bytes))
    else rest_of_stop Pcapng progress
    (stops.Refused (record { file = file; offset = block.offset; rule = BlockTrailer }))

-- what comes if these bytes, the next ones, are all up to the end of the file
abbrev pub rest_at_stage : Stage → PushView → List ℕ → FedRest
rest_at_stage Start c bytes = rest_from c.tail c.file c.progress c.offset bytes
rest_at_stage (Records header) c bytes =
    rest_of_records c.file (interface_of header) (record_items_from header c.tail c.file c.offset bytes)
rest_at_stage (Blocks section) c bytes =
    rest_of_blocks c.file c.progress (block_items_from section c.tail c.file c.offset bytes)
rest_at_stage (Skipping block left) c bytes = skipped_rest c.file c.tail c.progress block left bytes
rest_at_stage (Stopped format stop) c bytes = rest_of_stop format c.progress stop

abbrev pub rest_after : PushView → List ℕ → FedRest
rest_after c bytes = rest_at_stage c.stage c bytes

-- It has ended, and was not refused.
abbrev pub is_over_at : Stage → Bool
is_over_at Start = false
is_over_at (Records header) = false
is_over_at (Blocks section) = false
is_over_at (Skipping block left) = false
is_over_at (Stopped format stops.End) = true
is_over_at (Stopped format (stops.Cut rest)) = true
is_over_at (Stopped format (stops.Refused refusal)) = false

-- how it ended, if it has, and wasn't refused
abbrev pub EndingAt : PushView → Option FileEnd → Type 0
EndingAt c None = is_over_at c.stage ≡ false
EndingAt c (Some end) =
    (is_over_at c.stage ≡ true) × ((rest : List ℕ) → rest_after c rest ≡ record { items = []; ending = end })

-- Some bytes may be fed later: none once all were.
abbrev pub MayBeFed : PushView → List ℕ → Type 0
MayBeFed c later = IsTrue c.ended → later ≡ []

-- A capture that is fed: how far it was read, the bytes that were fed after that, the captured ones of the packet that
-- came last, how many bytes it keeps, those that were passed among them, and for how many it holds memory.
pub record FedState : Type 0 where
  pub state : PushView
  pub rest : List ℕ
  pub frame : List ℕ
  pub kept : ℕ
  pub room : ℕ

-- what still comes of it, if these bytes are fed later and no others
abbrev pub fed_rest : FedState → List ℕ → FedRest
fed_rest s later = rest_after s.state (s.rest ++ later)

abbrev pub fed_items : FedState → List ℕ → List Item
fed_items s later = (fed_rest s later).items
