-- What is written of one file as pcap (draft-ietf-opsawg-pcap, 4 and 5; rules 17 to 21).
use Rattle.std.specs.Prelude.{◌==◌, ◌%◌, ◌^◌, not, ◌&&◌, ℕ, ℤ, pos, nat_abs, int_le, int_lt, if◌then◌else◌, Bool, List}
use Rattle.std.specs.Prelude.{[], ◌∷◌, ◌++◌, Option, Some, None, is_none, option_map}
use Rattle.cap_bytes.specs.declared.faults.Refusal.{Refusal}
use Rattle.cap_bytes.specs.declared.faults.Rule.{Rule}
use Rattle.cap_bytes.specs.declared.faults.Rule.TheVariants.{NoTime, LinkMixed, Inexact, TimeRange, NoInterface}
use Rattle.cap_bytes.specs.declared.numbers.Order.{Order}
use Rattle.cap_pcap.specs.Grammar.{header_bytes, record_bytes}
use Rattle.cap_pcap.specs.declared.headers.PcapHeader.{PcapHeader}
use Rattle.cap_source.specs.Feed.{Item, packet, refused}
use Rattle.cap_source.specs.Items.{resolution_of_unit}
use Rattle.cap_source.specs.declared.packets.Meta.{Meta}
use Rattle.cap_time.specs.Resolution.{units_of}
use Rattle.cap_time.specs.Stamp.{stamp_in, whole_of}
use Rattle.cap_time.specs.Unit.{in_second}
use Rattle.cap_time.specs.declared.resolutions.Interface.{Interface}
use Rattle.cap_time.specs.declared.stamps.Unit.{Unit as Fraction}
use Rattle.cap_time.specs.declared.stamps.Unit.TheVariants.{Micro, Nano}
use Rattle.cap_write.specs.Numbering.{refusal_or}
use Rattle.cap_write.specs.Texts.{text_or}

-- An interface whose times count in the unit that is asked for, if one is, in place of its own. With it as the first
-- interface a header has that unit, and times are written in it.
abbrev pub in_unit : Option Fraction → Interface → Interface
in_unit None first = first
in_unit (Some unit) first = record first { resolution = resolution_of_unit unit }

-- the same of a first interface, if there is one
abbrev pub first_in_unit : Option Fraction → Option Interface → Option Interface
first_in_unit None first = first
first_in_unit (Some unit) first = option_map (in_unit (Some unit)) first

-- The fraction of a second in which times are written: microseconds if each unit of the first
-- interface is a whole number of them, else nanoseconds.
abbrev pub fraction_of : Interface → Fraction
fraction_of first = if 1000000 % units_of first.resolution == 0 then Micro else Nano

-- the header that is written (draft-ietf-opsawg-pcap, 4).
abbrev pub header_of : Order → Interface → PcapHeader
header_of order first =
    record { order = order; unit = fraction_of first; snaplen = first.snaplen; link = first.link }

-- a time in whole seconds and whole units of a fraction, if it is one
abbrev pub whole_time : Fraction → Interface → ℕ → Option (ℤ × ℕ)
whole_time fraction interface units = whole_of (in_second fraction) (stamp_in units interface)

-- whether seconds since 1970 fit in 32 bits
abbrev pub is_in_range : ℤ → Bool
is_in_range seconds = int_le (pos 0) seconds && int_lt seconds (pos (2 ^ 32))

-- why a time isn't written: it isn't whole, or its seconds are below 0 or don't fit in 32 bits
abbrev pub time_fault : Option (ℤ × ℕ) → Option Rule
time_fault None = Some Inexact
time_fault (Some time) = if is_in_range time.0 then None else Some TimeRange

abbrev pub units_fault : Fraction → Interface → Option ℕ → Option Rule
units_fault fraction interface None = Some NoTime
units_fault fraction interface (Some units) = time_fault (whole_time fraction interface units)

-- Why a packet isn't written after a header of that link and fraction: it has no time, it has another
-- link, or its time isn't written.
unfoldable pub written_record_fault : Interface → Meta → Option Rule
written_record_fault first meta =
    if is_none meta.units then Some NoTime else
    if not (meta.interface.link == first.link) then Some LinkMixed else
    units_fault (fraction_of first) meta.interface meta.units

-- the time that is written of a packet after a header of that fraction, if it is whole in it
abbrev pub whole_time_in : Fraction → Interface → Option ℕ → Option (ℤ × ℕ)
whole_time_in fraction interface None = None
whole_time_in fraction interface (Some units) = whole_time fraction interface units

abbrev pub written_time : Interface → Meta → Option (ℤ × ℕ)
written_time first meta = whole_time_in (fraction_of first) meta.interface meta.units

-- what is written for it (draft-ietf-opsawg-pcap, 5).
abbrev pub time_bytes : Order → Option (ℤ × ℕ) → ℕ → List ℕ → List ℕ
time_bytes order None original frame = []
time_bytes order (Some time) original frame = record_bytes order (nat_abs time.0) time.1 original frame

abbrev pub packet_record : Order → Interface → Meta → List ℕ → List ℕ
packet_record order first meta frame = time_bytes order (written_time first meta) meta.original frame

-- what is written for the packets of a list, and the refusal after them, if there is one
unfoldable pub records_bytes : Order → Interface → List Item → List ℕ
records_bytes order first [] = []
records_bytes order first (packet meta frame ∷ items) =
    text_or (written_record_fault first meta) (packet_record order first meta frame ++ records_bytes order first items)
records_bytes order first (refused refusal ∷ items) = []

unfoldable pub records_refusal : Interface → List Item → Option Refusal
records_refusal first [] = None
records_refusal first (packet meta frame ∷ items) =
    refusal_or (written_record_fault first meta) meta (records_refusal first items)
records_refusal first (refused refusal ∷ items) = Some refusal

-- the refusal of a file that describes no interface: its own, or that it describes none
abbrev pub bare_refusal : ℕ → List Item → Refusal
bare_refusal file [] = record { file = file; offset = 0; rule = NoInterface }
bare_refusal file (packet meta frame ∷ items) = record { file = file; offset = 0; rule = NoInterface }
bare_refusal file (refused refusal ∷ items) = refusal

-- What is written of a file with that first interface, and the refusal after it.
abbrev pub pcap_bytes : Order → Option Interface → List Item → List ℕ
pcap_bytes order None items = []
pcap_bytes order (Some first) items = header_bytes (header_of order first) ++ records_bytes order first items

abbrev pub pcap_refusal : ℕ → Option Interface → List Item → Option Refusal
pcap_refusal file None items = Some (bare_refusal file items)
pcap_refusal file (Some first) items = records_refusal first items
