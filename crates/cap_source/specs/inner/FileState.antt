-- What a file's reader still gives, of either format, and what is learned of what comes next.
use Rattle.std.specs.Prelude.{◌≡◌, ◌+◌, ◌-◌, ◌^◌, ◌≤◌, ◌<◌, ℕ, List, [], ◌∷◌, length, take, drop, Bool, true, false}
use Rattle.std.specs.Prelude.{not, IsTrue, Option, Some, None, IfSome, IfNone, Result, Ok, Err, ⊤, ◌⊎◌, is_some}
use Rattle.cap_bytes.specs.inner.Reach.{ReachesTo}
use Rattle.cap_bytes.specs.inner.Reader.{ReaderState}
use Rattle.cap_bytes.specs.inner.Window.{WindowState}
use Rattle.cap_bytes.specs.inner.Window as windows
use Rattle.cap_bytes.specs.declared.faults.Fault.{Fault}
use Rattle.cap_bytes.specs.declared.faults.Fault.TheVariants.{Refused, Read, Write, Memory}
use Rattle.cap_bytes.specs.declared.faults.Rule.{Rule}
use Rattle.cap_bytes.specs.declared.faults.Tail.{Tail}
use Rattle.cap_bytes.specs.declared.numbers.Order.{Order}
use Rattle.cap_time.specs.declared.resolutions.Interface.{Interface}
use Rattle.cap_pcap.specs.inner.Reader as pcaps
use Rattle.cap_pcap.specs.Split as records
use Rattle.cap_pcap.specs.declared.headers.PcapHeader.{PcapHeader}
use Rattle.cap_bytes.specs.declared.stops.Stop.{Stop}
use Rattle.cap_blocks.specs.inner.Reader as blocks
use Rattle.cap_source.specs.Feed.{Feed, Item, packet, refused, Knows, GivesHead, SameItems}
use Rattle.cap_blocks.specs.declared.blocks.Block.{Block}
use Rattle.cap_source.specs.declared.contents.BlockContent.{BlockContent}
use Rattle.cap_source.specs.declared.packets.Meta.{Meta}
use Rattle.cap_source.specs.declared.contents.BlockContent.TheVariants as contents
use Rattle.cap_source.specs.Items.{SectionProgress, meta_in, ending_with, items_of_blocks, ending_in, first_in}
use Rattle.cap_source.specs.Items.{interface_of}
use Rattle.cap_source.specs.Items.{pcap_items, pcap_ending, unless_refused, items_from, ending_from, first_from}
use Rattle.cap_source.specs.inner.SectionState.{counted_blocks}
use Rattle.cap_source.specs.declared.feeds.FileEnd.{FileEnd}
use Rattle.cap_source.specs.declared.feeds.Head.{Head}
use Rattle.cap_source.specs.declared.feeds.Head.TheVariants as heads
use Rattle.cap_source.specs.declared.readers.Peeked.{Peeked}
use Rattle.cap_source.specs.declared.readers.Peeked.TheVariants as peeks

-- The file of that number as its reader still gives it: the items to come, how the file ends, and its first interface
-- if it stands before the next item or the end, if the device tells its bytes; `noted` is that interface as far as the
-- file was read. The next record or block begins at `offset` or later. The file was read up to `read`, and its device
-- gives `most` bytes at a time at most, if it tells that. `lent` is what the reader lends of the one that was given
-- last. `stops` says that the reader has come to an end. `broken` is where the header, the record or the block begins
-- in which a read failed, once one has. `counted` blocks were counted.
pub record FileState : Type 0 where
  pub file : ℕ
  pub told : Bool
  pub items : List Item
  pub ending : FileEnd
  pub first : Option Interface
  pub noted : Option Interface
  pub offset : ℕ
  pub read : ℕ
  pub most : Option ℕ
  pub lent : Option (List ℕ)
  pub stops : Bool
  pub broken : Option ℕ
  pub failed : Bool
  pub can_fail : Bool
  pub held : ℕ
  pub interfaces : ℕ
  pub counted : ℕ

-- a file of which nothing was read
abbrev pub unread_state : WindowState → Tail → SectionProgress → FileState
unread_state window tail progress =
    record {
      file = window.file;
      told = window.told;
      items = items_from tail window.file progress window.offset (windows.coming window);
      ending = ending_from tail window.file progress window.offset (windows.coming window);
      first = first_from tail window.file progress window.offset (windows.coming window);
      noted = progress.first;
      offset = window.offset;
      read = windows.read_to window;
      most = window.most;
      lent = None;
      stops = false;
      broken = window.broken;
      failed = window.failed;
      can_fail = window.can_fail;
      held = window.held;
      interfaces = length progress.interfaces;
      counted = counted_blocks progress;
    }

-- the header of a pcap file: the one that was read, or that of the bytes to come
abbrev pub header_or : Option PcapHeader → List ℕ → PcapHeader
header_or (Some header) bytes = header
header_or None bytes = records.header_at bytes

-- its interface, unless its header is refused
abbrev pub first_unless : Option Stop → ℕ → List ℕ → Option Interface
first_unless (Some stop) offset bytes = None
first_unless None offset bytes = unless_refused (records.pcap_header_fault offset bytes)
    (interface_of (records.header_at bytes))

abbrev pub first_in_pcap : Option PcapHeader → Option Stop → ℕ → List ℕ → Option Interface
first_in_pcap (Some header) stop offset bytes = Some (interface_of header)
first_in_pcap None stop offset bytes = first_unless stop offset bytes

-- its interface as far as the file was read
abbrev pub noted_by : Option PcapHeader → Option Interface
noted_by None = None
noted_by (Some header) = Some (interface_of header)

-- a pcap file
abbrev pub pcap_state : ReaderState PcapHeader → SectionProgress → FileState
pcap_state reader progress =
    record {
      file = reader.file;
      told = reader.told;
      items = pcap_items reader.file (interface_of (header_or reader.known reader.coming))
          (pcaps.records_to_come reader);
      ending = pcap_ending (pcaps.records_to_come reader);
      first = first_in_pcap reader.known reader.stop reader.offset reader.coming;
      noted = noted_by reader.known;
      offset = reader.offset;
      read = reader.read;
      most = reader.most;
      lent = reader.lent;
      stops = is_some reader.stop;
      broken = reader.broken;
      failed = reader.failed;
      can_fail = reader.can_fail;
      held = reader.held;
      interfaces = length progress.interfaces;
      counted = counted_blocks progress;
    }

-- a pcapng file
abbrev pub pcapng_state : ReaderState Order → SectionProgress → FileState
pcapng_state reader progress =
    record {
      file = reader.file;
      told = reader.told;
      items = items_of_blocks reader.file progress (blocks.blocks_to_come reader);
      ending = ending_in progress (blocks.blocks_to_come reader);
      first = first_in progress (blocks.blocks_to_come reader);
      noted = progress.first;
      offset = reader.offset;
      read = reader.read;
      most = reader.most;
      lent = reader.lent;
      stops = is_some reader.stop;
      broken = reader.broken;
      failed = reader.failed;
      can_fail = reader.can_fail;
      held = reader.held;
      interfaces = length progress.interfaces;
      counted = counted_blocks progress;
    }

-- what every answer keeps of a file
pub record FileKeeps (old new : FileState) : Type 0 where
  pub file : new.file ≡ old.file
  pub most : new.most ≡ old.most
  pub told : IsTrue old.told → IsTrue new.told
  pub can_fail : IsTrue new.can_fail → IsTrue old.can_fail
  pub offset : old.offset ≤ new.offset
  pub limit : old.offset ≤ 2 ^ 40 → new.offset ≤ 2 ^ 40
  pub held : old.held ≤ 524288 → new.held ≤ 524288
  pub interfaces : old.interfaces ≤ 1024 → new.interfaces ≤ 1024
  pub counted : old.counted ≤ old.offset → new.counted ≤ new.offset

-- A record or block is taken, or several, the last of which ends where the next one begins: no read began once all of
-- it had come.
abbrev pub ReadsTo : FileState → FileState → Type 0
ReadsTo old new = ReachesTo old.most new.offset old.read new.read

-- The file goes on, or a packet comes next: then that holds.
abbrev pub IfTaken : Option Peeked → Type 0 → Type 0
IfTaken None P = P
IfTaken (Some (peeks.Packet meta place)) P = P
IfTaken (Some (peeks.Refused refusal ending)) P = ⊤
IfTaken (Some (peeks.End ending)) P = ⊤

-- The same of a file of which something was to come: that takes 4 bytes at least.
abbrev pub FileTakes : FileState → FileState → Type 0
FileTakes old new = (old.offset + 4 ≤ new.offset) × ReadsTo old new

-- what is to come of a file is the same
pub record SameRest (old new : FileState) : Type 0 where
  pub items : new.items ≡ old.items
  pub ending : new.ending ≡ old.ending
  pub first : new.first ≡ old.first

-- where the captured bytes of a packet end in what is lent, and how long that is, each counted from 1
abbrev pub lent_end : Option Peeked → ℕ
lent_end None = 0
lent_end (Some (peeks.Packet meta place)) = place + meta.captured + 1
lent_end (Some (peeks.Refused refusal ending)) = 0
lent_end (Some (peeks.End ending)) = 0

abbrev pub lent_length : Option (List ℕ) → ℕ
lent_length None = 0
lent_length (Some bytes) = length bytes + 1

-- where the captured bytes of a packet begin in what is lent
abbrev pub start_of : Option Peeked → ℕ
start_of None = 0
start_of (Some (peeks.Packet meta place)) = place
start_of (Some (peeks.Refused refusal ending)) = 0
start_of (Some (peeks.End ending)) = 0

-- how many bytes are captured of a packet
abbrev pub captured_of : Option Peeked → ℕ
captured_of None = 0
captured_of (Some (peeks.Packet meta place)) = meta.captured
captured_of (Some (peeks.Refused refusal ending)) = 0
captured_of (Some (peeks.End ending)) = 0

-- the place after the first byte of a packet's record or block
abbrev pub behind_of : Option Peeked → ℕ
behind_of None = 0
behind_of (Some (peeks.Packet meta place)) = meta.offset + 1
behind_of (Some (peeks.Refused refusal ending)) = 0
behind_of (Some (peeks.End ending)) = 0

-- where the next record or block begins, or that of a packet that comes next
abbrev pub place_of_next : Option Peeked → ℕ → ℕ
place_of_next None offset = offset
place_of_next (Some (peeks.Packet meta place)) offset = meta.offset
place_of_next (Some (peeks.Refused refusal ending)) offset = offset
place_of_next (Some (peeks.End ending)) offset = offset

-- the file that is named by what comes next
abbrev pub next_file : Option Peeked → ℕ → ℕ
next_file None file = file
next_file (Some (peeks.Packet meta place)) file = meta.file
next_file (Some (peeks.Refused refusal ending)) file = refusal.file
next_file (Some (peeks.End ending)) file = file

-- the captured bytes of a packet
abbrev pub part_of : Option (List ℕ) → ℕ → ℕ → List ℕ
part_of None place captured = []
part_of (Some bytes) place captured = take captured (drop place bytes)

abbrev pub next_frame : Option Peeked → Option (List ℕ) → List ℕ
next_frame None lent = []
next_frame (Some (peeks.Packet meta place)) lent = part_of lent place meta.captured
next_frame (Some (peeks.Refused refusal ending)) lent = []
next_frame (Some (peeks.End ending)) lent = []

-- the reader has not come to an end, unless that is known
abbrev pub is_free : Option Peeked → Bool → Bool
is_free None stops = not stops
is_free (Some (peeks.Packet meta place)) stops = not stops
is_free (Some (peeks.Refused refusal ending)) stops = true
is_free (Some (peeks.End ending)) stops = true

-- no read has failed, if it is known what comes next
abbrev pub is_unbroken : Option Peeked → Option ℕ → Bool
is_unbroken None broken = true
is_unbroken (Some next) broken = not (is_some broken)

-- what is always true of what comes next of a file
pub record IsNext (next : Option Peeked) (state : FileState) : Type 0 where
  pub file : next_file next state.file ≡ state.file
  pub lent : lent_end next ≤ lent_length state.lent
  pub captured : captured_of next ≤ 262144
  pub behind : behind_of next ≤ state.offset

-- the items to come, by what comes next
abbrev pub items_from_next : Option Peeked → List ℕ → List Item → List Item
items_from_next None frame rest = rest
items_from_next (Some (peeks.Packet meta place)) frame rest = packet meta frame ∷ rest
items_from_next (Some (peeks.Refused refusal ending)) frame rest = refused refusal ∷ []
items_from_next (Some (peeks.End ending)) frame rest = []

-- how the file ends
abbrev pub ending_by : Option Peeked → FileEnd → FileEnd
ending_by None later = later
ending_by (Some (peeks.Packet meta place)) later = later
ending_by (Some (peeks.Refused refusal ending)) later = ending
ending_by (Some (peeks.End ending)) later = ending

-- its first interface, if it stands before what comes next
abbrev pub first_by : Option Peeked → FileState → Option Interface
first_by None state = state.first
first_by (Some next) state = state.noted

abbrev pub head_of : Peeked → Head
head_of (peeks.Packet meta place) = heads.Packet meta
head_of (peeks.Refused refusal ending) = heads.Refused refusal
head_of (peeks.End ending) = heads.End

abbrev pub next_head : Option Peeked → Option Head
next_head None = None
next_head (Some next) = Some (head_of next)

-- the fault of a read that failed in what begins there
abbrev pub break_at : ℕ → Option ℕ → Option Fault
break_at file None = None
break_at file (Some offset) = Some (Read file offset)

-- where the next record or block begins, or the one in which a read failed
abbrev pub offset_at : Option ℕ → ℕ → ℕ
offset_at None offset = offset
offset_at (Some first) offset = first

-- a packet is known to come next
abbrev pub is_packet : Option Peeked → Bool
is_packet None = false
is_packet (Some (peeks.Packet meta place)) = true
is_packet (Some (peeks.Refused refusal ending)) = false
is_packet (Some (peeks.End ending)) = false

-- the file, of which that comes next if it is known, as a feed
abbrev pub file_feed : FileState → Option Peeked → Feed
file_feed state next =
    record {
      files = state.file ∷ [];
      told = state.told;
      items = items_from_next next (next_frame next state.lent) state.items;
      endings = λ file. ending_by next state.ending;
      known = next_head next;
      frame = next_frame next state.lent;
      broken = break_at state.file state.broken;
      places = λ file. place_of_next next (offset_at state.broken state.offset);
      left = 2 ^ 40 - place_of_next next state.offset;
      can_fail = λ file. state.can_fail;
      held = record { window = state.held; interfaces = state.interfaces; failed = state.failed };
    }

-- No read has failed of a file, and none does.
pub record FileGoes (old new : FileState) : Type 0 where
  pub before : old.broken ≡ None
  pub after : new.broken ≡ None
  pub failed : new.failed ≡ old.failed

-- What comes next of a file is learned.
pub record FileLearns (old : FileState) (next : Peeked) (new : FileState) : Type 0 where
  pub is : IsNext (Some next) new
  pub place : old.offset ≤ place_of_next (Some next) new.offset
  pub free : IsTrue (is_free (Some next) new.stops)
  pub goes : FileGoes old new
  pub items : IsTrue old.told → items_from_next (Some next) (next_frame (Some next) new.lent) new.items ≡ old.items
  pub ending : IsTrue old.told → ending_by (Some next) new.ending ≡ old.ending
  pub first : IsTrue old.told → new.noted ≡ old.first

-- A read of it fails in this call, or failed in an earlier one: then the offset is the same.
pub record FileFails (old : FileState) (file offset : ℕ) (new : FileState) : Type 0 where
  pub stops : new.stops ≡ false
  pub file_is : file ≡ old.file
  pub again : IfSome old.broken (λ first. offset ≡ first)
  pub first : IfNone old.broken (old.offset ≤ offset)
  pub after : new.broken ≡ Some offset
  pub failed : IsTrue new.failed
  pub can_fail : IsTrue old.can_fail

-- Nothing is learned, and what is to come is the same.
pub record FileWaits (old new : FileState) : Type 0 where
  pub stops : new.stops ≡ false
  pub broken : new.broken ≡ old.broken
  pub failed : new.failed ≡ old.failed
  pub rest : IsTrue old.told → SameRest old new

-- what a look at what comes next returns, and what is known of that after it
abbrev pub FileAnswers : {A : Type 0} → FileState → Result A Fault → Option Peeked → FileState → Type 0
FileAnswers old (Ok x) after new = (next : Peeked) × (after ≡ Some next) × FileLearns old next new
FileAnswers old (Err (Refused refusal)) after new = ⊥
FileAnswers old (Err (Read file offset)) after new = (after ≡ None) × FileFails old file offset new
FileAnswers old (Err Write) after new = ⊥
FileAnswers old (Err Memory) after new = (after ≡ None) × FileWaits old new × (old.broken ≡ None)

-- what a look at what is shown already returns: whether it was enough
abbrev pub TakesShown : FileState → Bool → Option Peeked → FileState → Type 0
TakesShown old true after new = (next : Peeked) × (after ≡ Some next) × FileLearns old next new
TakesShown old false after new = ⊤

-- the same of a look at one block, after which a pcapng file may go on
pub record GoesOn (old new : FileState) : Type 0 where
  pub waits : FileWaits old new
  pub further : old.offset < new.offset

abbrev pub StepsTo : FileState → Option Peeked → FileState → Type 0
StepsTo old (Some next) new = FileLearns old next new
StepsTo old None new = GoesOn old new

abbrev pub FileSteps : {A : Type 0} → FileState → Result A Fault → Option Peeked → FileState → Type 0
FileSteps old (Ok x) after new = StepsTo old after new
FileSteps old (Err (Refused refusal)) after new = ⊥
FileSteps old (Err (Read file offset)) after new = (after ≡ None) × FileFails old file offset new
FileSteps old (Err Write) after new = ⊥
FileSteps old (Err Memory) after new = (after ≡ None) × FileWaits old new × (old.broken ≡ None)

-- what comes next if a block says that, if anything does
abbrev pub next_at : ℕ → SectionProgress → Block → Result BlockContent Rule → Option Peeked
next_at file progress block (Ok contents.Section) = None
next_at file progress block (Ok (contents.Interface described)) = None
next_at file progress block (Ok (contents.Packet p)) = Some (peeks.Packet (meta_in file progress block p) p.place)
next_at file progress block (Ok (contents.Other kind)) = None
next_at file progress block (Err rule) =
    Some (peeks.Refused (record { file = file; offset = block.offset; rule = rule }) (ending_with progress None))

-- what is always true of a file and of what comes next of it, if that is known
pub record IsSoundFile (state : FileState) (next : Option Peeked) : Type 0 where
  pub is : IsNext next state
  pub free : IsTrue (is_free next state.stops)
  pub whole : IsTrue (is_unbroken next state.broken)
  pub limit : state.offset ≤ 2 ^ 40
  pub held : state.held ≤ 524288
  pub interfaces : state.interfaces ≤ 1024
  pub counted : state.counted ≤ state.offset

-- What is learned, or was known before.
abbrev pub LearnsOr : FileState → Option Peeked → Peeked → FileState → Type 0
LearnsOr old None next new = FileLearns old next new
LearnsOr old (Some known) next new = (next ≡ known) × (new ≡ old)

-- what asking for what comes next returns
abbrev pub LearnsNext : {A : Type 0} → FileState → Option Peeked → Result A Fault → FileState → Option Peeked → Type 0
LearnsNext old known (Ok x) new after = (next : Peeked) × (after ≡ Some next) × LearnsOr old known next new
LearnsNext old known (Err (Refused refusal)) new after = ⊥
LearnsNext old known (Err (Read file offset)) new after = (known ≡ None) × (after ≡ None)
    × FileFails old file offset new
LearnsNext old known (Err Write) new after = ⊥
LearnsNext old known (Err Memory) new after = (known ≡ None) × (after ≡ None) × FileWaits old new × (old.broken ≡ None)

-- what asking whether a packet is shown returns
abbrev pub ShowsNext : FileState → Option Peeked → Bool → FileState → Option Peeked → Type 0
ShowsNext old known true new after = (meta : Meta) × (place : ℕ) × (after ≡ Some (peeks.Packet meta place))
    × LearnsOr old known (peeks.Packet meta place) new
ShowsNext old known false new after = ((new ≡ old) × (after ≡ known))
    ⊎ ((next : Peeked) × (after ≡ Some next) × LearnsOr old known next new)

-- what asking for the first interface returns, of the file as a feed
abbrev pub GivesFirst : Feed → Option Interface → Result (Option Interface) Fault → Feed → Type 0
GivesFirst old first (Ok given) new = (head : Head) × Knows old head new × (IsTrue old.told → given ≡ first)
GivesFirst old first (Err fault) new = GivesHead old (Err fault) new

-- what it does to the items to come, and to the first interface
abbrev pub KeepsFirst : Feed → Option Interface → Result (Option Interface) Fault → Feed → Option Interface → Type 0
KeepsFirst old first (Ok given) new later = SameItems old new × (later ≡ first)
KeepsFirst old first (Err (Refused refusal)) new later = ⊥
KeepsFirst old first (Err (Read file offset)) new later = ⊤
KeepsFirst old first (Err Write) new later = ⊥
KeepsFirst old first (Err Memory) new later = SameItems old new × (later ≡ first)
