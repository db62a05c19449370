-- What is seen at the front of the bytes that a window shows.
use Rattle.std.specs.Prelude.{◌≡◌, ◌||◌, true, false, ⊤, ◌≤◌, ◌<◌, ◌+◌, ◌^◌, ℕ, List, length, take, drop, IsTrue, Some}
use Rattle.std.specs.Prelude.{None, Result, Ok, Err}
use Rattle.cap_bytes.specs.inner.Parsing.{SeesStop, FailsBy, LooksFor}
use Rattle.cap_bytes.specs.inner.Window.{WindowState, WindowShows, coming}
use Rattle.cap_bytes.specs.declared.faults.Fault.{Fault}
use Rattle.cap_bytes.specs.declared.faults.Refusal.{Refusal}
use Rattle.cap_bytes.specs.declared.faults.Rule.{Rule}
use Rattle.cap_bytes.specs.declared.faults.Rule.TheVariants.{Cut}
use Rattle.cap_bytes.specs.declared.faults.Tail.{Tail}
use Rattle.cap_bytes.specs.declared.numbers.Order.{Order}
use Rattle.cap_bytes.specs.declared.numbers.Order.TheVariants.{Big, Little}
use Rattle.cap_bytes.specs.declared.stops.Stop.{Stop}
use Rattle.cap_bytes.specs.declared.stops.Stop.TheVariants as stops
use Rattle.cap_time.specs.declared.stamps.Unit.{Unit as Fraction}
use Rattle.cap_pcap.specs.Grammar.{SpellsRecord}
use Rattle.cap_pcap.specs.inner.Reader.{packet_of}
use Rattle.cap_pcap.specs.Split.{is_magic, pcap_order_at, pcap_unit_at, pcap_header_fault, header_at, captured_at}
use Rattle.cap_pcap.specs.Split.{record_fault}
use Rattle.cap_pcap.specs.Split.{record_stop_at}
use Rattle.cap_pcap.specs.declared.headers.PcapHeader.{PcapHeader}
use Rattle.cap_pcap.specs.declared.records.Record.{Record}

-- Some bytes begin with a magic, which reads in that order and tells that unit.
pub record HasMagic (bytes : List ℕ) (order : Order) (unit : Fraction) : Type 0 where
  pub there : (is_magic Big bytes || is_magic Little bytes) ≡ true
  pub order_is : order ≡ pcap_order_at bytes
  pub unit_is : unit ≡ pcap_unit_at order bytes

-- the header of some bytes that begin at `offset`, or the first condition that they meet in its place
abbrev pub ParsesPcapHeader : ℕ → List ℕ → Result PcapHeader Rule → Type 0
ParsesPcapHeader offset bytes (Ok header) = (pcap_header_fault offset bytes ≡ None) × (header ≡ header_at bytes)
ParsesPcapHeader offset bytes (Err rule) = pcap_header_fault offset bytes ≡ Some rule

-- The header is shown.
pub record SeesPcapHeader (header : PcapHeader) (old new : WindowState) : Type 0 where
  pub shows : WindowShows old new
  pub size : 24 ≤ length new.shown
  pub limit : new.offset + 24 ≤ 2 ^ 40
  pub whole : IsTrue old.told → pcap_header_fault old.offset (coming old) ≡ None
  pub header_is : IsTrue old.told → header ≡ header_at (coming old)

-- what a look at the header returns
abbrev pub LooksForHeader : WindowState → Result (Result PcapHeader Refusal) Fault → WindowState → Type 0
LooksForHeader old (Ok (Ok header)) new = SeesPcapHeader header old new
LooksForHeader old (Ok (Err refusal)) new =
    (tail : Tail) → SeesStop false (pcap_header_fault old.offset (coming old)) tail (stops.Refused refusal) old new
LooksForHeader old (Err fault) new = FailsBy 24 ⊤ old fault new

-- A record is shown whole.
pub record SeesRecord (header : PcapHeader) (tail : Tail) (r : Record) (old new : WindowState) : Type 0 where
  pub shows : WindowShows old new
  pub size : 16 + r.captured ≤ length new.shown
  pub captured : r.captured ≤ 262144
  pub limit : new.offset + (16 + r.captured) ≤ 2 ^ 40
  pub offset : r.offset ≡ old.offset
  pub spelled : SpellsRecord header.order header.unit (packet_of r (take r.captured (drop 16 new.shown)))
      (take (16 + r.captured) new.shown)
  pub none : IsTrue old.told → record_stop_at header.order tail old.file old.offset (coming old) ≡ None

-- what a look at a record returns
abbrev pub LooksForRecord : PcapHeader → Tail → WindowState → Result (Result Record Stop) Fault → WindowState → Type 0
LooksForRecord header tail old result new =
    LooksFor (λ r. SeesRecord header tail r old new) true (record_fault header.order old.offset (coming old))
    262160 (old.room < 16 + captured_at header.order (coming old)) tail old result new

-- how many bytes the record takes whose first 16 bytes stand at the front, or the first condition that they meet
abbrev pub Measures : Order → ℕ → List ℕ → Result ℕ Rule → Type 0
Measures order offset bytes (Ok size) =
    (size ≡ 16 + captured_at order bytes) × (size ≤ 262160) × (offset + size ≤ 2 ^ 40)
Measures order offset bytes (Err rule) =
    (Some rule ≡ record_fault order offset bytes) × (rule ≡ Cut → ⊥)
