-- What a reader of a pcap file is at one moment, and what its calls do.
use Rattle.std.specs.Prelude.{◌≡◌, ◌+◌, ◌^◌, ◌≤◌, ◌<◌, ℕ, List, [], ◌∷◌, length, take, drop, true, false, IsTrue}
use Rattle.std.specs.Prelude.{Option, Some, None, option_map, IfSome, IfNone, IsSomeAnd, Result, Ok, Err, ⊤}
use Rattle.cap_bytes.specs.Items.{IsEnd, PieceItem, given, stopped, items_by_stop}
use Rattle.cap_bytes.specs.Items as items
use Rattle.cap_bytes.specs.inner.Reach.{Reaches}
use Rattle.cap_bytes.specs.inner.Reader.{ReaderState, ReaderBreaks, ReaderWaits, Gives, GivesStop}
use Rattle.cap_bytes.specs.inner.Reader as readers
use Rattle.cap_bytes.specs.inner.Window.{WindowState}
use Rattle.cap_bytes.specs.declared.faults.Fault.{Fault}
use Rattle.cap_bytes.specs.declared.faults.Fault.TheVariants.{Refused, Read, Write, Memory}
use Rattle.cap_bytes.specs.declared.faults.Tail.{Tail}
use Rattle.cap_bytes.specs.declared.stops.Stop.{Stop}
use Rattle.cap_bytes.specs.declared.stops.Stop.TheVariants as stops
use Rattle.cap_pcap.specs.Grammar.{Packet, SpellsHeader, SpellsRecord}
use Rattle.cap_pcap.specs.Split.{pcap_header_fault, header_at, captured_at, record_fault, record_stop_at}
use Rattle.cap_pcap.specs.Split.{record_items_from, pcap_file_items}
use Rattle.cap_pcap.specs.declared.headers.PcapHeader.{PcapHeader}
use Rattle.cap_pcap.specs.declared.records.Record.{Record}

-- the items of the bytes to come of a file: those of the whole file, before its header is known
abbrev pub record_items_at : Option PcapHeader → Tail → ℕ → ℕ → List ℕ → List (PieceItem Record)
record_items_at None tail file offset bytes = pcap_file_items tail file offset bytes
record_items_at (Some header) tail file offset bytes = record_items_from header tail file offset bytes

abbrev pub records_to_come : ReaderState PcapHeader → List (PieceItem Record)
records_to_come reader = items_by_stop reader.stop (record_items_at reader.known reader.tail reader.file reader.offset
    reader.coming)

-- The header is read, which stands at the front of the bytes to come.
pub record ReadsHeader (header : PcapHeader) (old new : ReaderState PcapHeader) : Type 0 where
  pub gives : Gives (Some header) 24 old new
  pub lent : new.lent ≡ None
  pub whole : IsTrue old.told → pcap_header_fault old.offset old.coming ≡ None
  pub header_is : IsTrue old.told → header ≡ header_at old.coming
  pub spelled : IsTrue old.told → SpellsHeader header (take 24 old.coming)

-- Nothing has been refused.
abbrev pub MayGoOn : Option Stop → Type 0
MayGoOn None = ⊤
MayGoOn (Some stops.End) = ⊤
MayGoOn (Some (stops.Cut rest)) = ⊤
MayGoOn (Some (stops.Refused refusal)) = ⊥

-- The header is given: the one that was given before, or the file's.
pub record HasHeader (header : PcapHeader) (old new : ReaderState PcapHeader) : Type 0 where
  pub may_go_on : MayGoOn old.stop
  pub header_known : new.known ≡ Some header
  pub again : IfSome old.known (λ first. (header ≡ first) × (new ≡ old))
  pub first : IfNone old.known (ReadsHeader header old new)

-- a header that is known stays
abbrev pub KeepsHeader : ReaderState PcapHeader → ReaderState PcapHeader → Type 0
KeepsHeader old new = IfSome old.known (λ header. new.known ≡ Some header)

-- What `header` returns. A refusal is the one that came before, or that of the file's header, by the first condition
-- that it meets.
abbrev pub GivesHeader : ReaderState PcapHeader → Result PcapHeader Fault → ReaderState PcapHeader → Type 0
GivesHeader old (Ok header) new = HasHeader header old new
GivesHeader old (Err (Refused refusal)) new =
    GivesStop false (pcap_header_fault old.offset old.coming) (stops.Refused refusal) old new
    × IfNone old.stop (old.known ≡ None)
GivesHeader old (Err (Read file offset)) new = ReaderBreaks old file offset new × (old.known ≡ None)
GivesHeader old (Err Memory) new = ReaderWaits 24 old new × (old.known ≡ None)
GivesHeader old (Err Write) new = ⊥

-- the packet that a record with these captured bytes gives
abbrev pub packet_of : Record → List ℕ → Packet
packet_of r frame = record { units = r.units; original = r.original; frame = frame }

-- how many bytes a record takes
abbrev pub record_size : Record → ℕ
record_size r = 16 + r.captured

-- How far `header` reads, and `next_record`: the header takes 24 bytes, and a record 16 and those that were captured.
abbrev pub ReachesHeader : ReaderState PcapHeader → Result PcapHeader Fault → ReaderState PcapHeader → Type 0
ReachesHeader old result new = Reaches (λ _. Some 24) 24 (readers.position old) result new.read

abbrev pub ReachesRecord : PcapHeader → ReaderState PcapHeader → Result (Option Record) Fault → ReaderState PcapHeader
    → Type 0
ReachesRecord header old result new =
    Reaches (option_map record_size) (16 + captured_at header.order old.coming) (readers.position old) result new.read

-- A record is given, whose bytes stand at the front of the bytes to come, and its frame is lent.
pub record GivesRecord (header : PcapHeader) (old : ReaderState PcapHeader) (r : Record)
    (new : ReaderState PcapHeader) : Type 0 where
  pub gives : Gives old.known (16 + r.captured) old new
  pub offset : r.offset ≡ old.offset
  pub captured : r.captured ≤ 262144
  pub frame : IsSomeAnd new.lent (λ frame. length frame ≡ r.captured)
  pub none : IsTrue old.told → record_stop_at header.order old.tail old.file old.offset old.coming ≡ None
  pub spelled : IsTrue old.told → IfSome new.lent (λ frame.
      SpellsRecord header.order header.unit (packet_of r frame) (take (16 + r.captured) old.coming))

-- what `next_record` returns
abbrev pub GivesNextRecord : PcapHeader → ReaderState PcapHeader → Result (Option Record) Fault
    → ReaderState PcapHeader → Type 0
GivesNextRecord header old result new =
    readers.GivesNextPiece (λ r. GivesRecord header old r new) true (record_fault header.order old.offset old.coming)
    262160 (old.room < 16 + captured_at header.order old.coming) old result new

-- where the bytes to come begin after that answer
abbrev pub place_after : ℕ → Result (Option Record) Fault → ℕ
place_after offset (Ok (Some r)) = offset + (16 + r.captured)
place_after offset (Ok None) = offset
place_after offset (Err fault) = offset

-- The refusal that ended the records comes again, if one did.
abbrev pub RefusesAgain : {A : Type 0} → Option Stop → Result A Fault → Type 0
RefusesAgain stop (Ok _) = MayGoOn stop
RefusesAgain stop (Err (Refused refusal)) = stop ≡ Some (stops.Refused refusal)
RefusesAgain stop (Err (Read file offset)) = ⊥
RefusesAgain stop (Err Memory) = ⊥
RefusesAgain stop (Err Write) = ⊥

-- what `header` does to the items to come
abbrev pub KeepsRecords : List (PieceItem Record) → Result PcapHeader Fault → List (PieceItem Record) → Type 0
KeepsRecords old (Ok header) new = new ≡ old
KeepsRecords old (Err (Refused refusal)) new = (old ≡ stopped (stops.Refused refusal) ∷ []) × (new ≡ old)
KeepsRecords old (Err (Read file offset)) new = ⊤
KeepsRecords old (Err Memory) new = new ≡ old
KeepsRecords old (Err Write) new = ⊥

-- what `next_record` does to them
abbrev pub TakesRecord : List (PieceItem Record) → Result (Option Record) Fault → Option (List ℕ)
    → List (PieceItem Record) → Type 0
TakesRecord old result frame new = items.TakesPiece
    (λ r. IsSomeAnd frame (λ bytes. old ≡ given r bytes ∷ new)) old result new

-- how many bytes the record that was given last takes, by how many were captured of it
abbrev pub shown_record_size : Option ℕ → ℕ
shown_record_size None = 0
shown_record_size (Some captured) = 16 + captured

-- its captured bytes, which the window shows
abbrev pub lent_frame : Option ℕ → List ℕ → Option (List ℕ)
lent_frame None shown = None
lent_frame (Some captured) shown = Some (take captured (drop 16 shown))

-- a reader by the window over its file, its tail, the header once it is known, how many bytes were captured
-- of the record that was given last, and what ended the records
abbrev pub record_reader_state : WindowState → Tail → Option PcapHeader → Option ℕ → Option Stop
    → ReaderState PcapHeader
record_reader_state window tail header captured stop =
    readers.reader_state window tail header (shown_record_size captured) (lent_frame captured window.shown) stop

-- Before there is a header, nothing is given, and only a refusal ends the records.
abbrev pub IsInOrder : Option PcapHeader → Option ℕ → Option Stop → Type 0
IsInOrder (Some header) captured stop = ⊤
IsInOrder None captured None = captured ≡ None
IsInOrder None captured (Some stop) = (captured ≡ None) × (IsEnd stop → ⊥)

-- what a reader's fields always meet
pub record IsSoundRecordReader (header : Option PcapHeader) (captured : Option ℕ) (stop : Option Stop)
    (shown offset held : ℕ) : Type 0 where
  pub in_order : IsInOrder header captured stop
  pub within : shown_record_size captured ≤ shown
  pub bounded : shown_record_size captured ≤ 262160
  pub limit : offset + shown_record_size captured ≤ 2 ^ 40
  pub held_limit : held ≤ 524288
