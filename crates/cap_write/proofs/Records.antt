-- The packets of a feed, written one by one in the form of pcap.
use Rattle.std.proofs.Common.{arith, ◌≡◌, ℕ, not, List, Bool, IsTrue, Option, Some, None, is_none, Result, Err}
use Rattle.std.proofs.Common.{if◌then◌else◌}
use Rattle.cap_bytes.specs.Device.{Writer}
use Rattle.cap_bytes.specs.declared.faults.Fault.{Fault}
use Rattle.cap_bytes.specs.declared.faults.Fault.TheVariants.{Refused}
use Rattle.cap_bytes.specs.declared.faults.Rule.{Rule}
use Rattle.cap_bytes.specs.declared.faults.Rule.TheVariants.{NoTime, LinkMixed}
use Rattle.cap_bytes.specs.declared.numbers.Order.{Order}
use Rattle.cap_pcap.specs.declared.records.RecordTime.{RecordTime}
use Rattle.cap_source.proofs.Onward.{Went}
use Rattle.cap_source.proofs.Walking.{Plan, IsPlan, GoesOn, GivesUp, Walking}
use Rattle.cap_source.specs.Feed.{Feed}
use Rattle.cap_source.specs.inner.Walk.{SameEndings}
use Rattle.cap_source.specs.declared.packets.Meta.{Meta}
use Rattle.cap_time.specs.declared.resolutions.Interface.{Interface}
use Rattle.cap_time.specs.declared.stamps.Unit.{Unit as Fraction}
use Rattle.cap_write.specs.inner.Interfaces.{HasUnits}
use Rattle.cap_write.specs.Numbering.{refusal_at}
use Rattle.cap_write.specs.Pcap.{fraction_of, units_fault, written_record_fault, packet_record, records_bytes}
use Rattle.cap_write.specs.Pcap.{records_refusal}
use Rattle.cap_write.specs.Texts.{text_or}
use Rattle.cap_write.specs.inner.Times.{HasTime, HasRecord}

abbrev pub fault_by : Option ℕ → Bool → Fraction → Interface → Option Rule
fault_by units same fraction interface =
    if is_none units then Some NoTime else if not same then Some LinkMixed else units_fault fraction interface units

-- a packet without a time
pub HasRecord-untimed : (first : Interface) (meta : Meta) (fault : Fault) → HasUnits meta (Err fault)
    → HasRecord first meta (Err fault)
unfolding written_record_fault
HasRecord-untimed first meta fault h = grind arith

-- a packet of another link
pub HasRecord-mixed : (first : Interface) (meta : Meta) (units : ℕ) (fault : Fault) → meta.units ≡ Some units
    → (meta.interface.link ≡ first.link → ⊥)
    → fault ≡ Refused (refusal_at meta LinkMixed) → HasRecord first meta (Err fault)
unfolding written_record_fault
HasRecord-mixed first meta units fault is other told = grind arith

-- a packet whose time is written, or isn't
pub HasRecord-timed : (first : Interface) (meta : Meta) (units : ℕ) (result : Result RecordTime Fault)
    → meta.units ≡ Some units → meta.interface.link ≡ first.link
    → HasTime (fraction_of first) meta units result → HasRecord first meta result
unfolding written_record_fault
HasRecord-timed first meta units result is one h = grind arith

-- what is to be written after that header
abbrev pub plan_of : Order → Interface → Plan
plan_of order first = record { text = records_bytes order first; refusal = records_refusal first }

pub plan_of-is : (order : Order) (first : Interface) → IsPlan (plan_of order first)
unfolding records_bytes records_refusal
plan_of-is order first = grind arith

pub plan_of-next : (order : Order) (first : Interface) (meta : Meta) (frame : List ℕ)
    → written_record_fault first meta ≡ None
    → GoesOn (plan_of order first) meta frame (text_or (written_record_fault first meta)
    (packet_record order first meta frame))
    (plan_of order first)
unfolding records_bytes records_refusal
plan_of-next order first meta frame none = grind arith

pub plan_of-refused : (order : Order) (first : Interface) (meta : Meta) (frame : List ℕ) (rule : Rule)
    → written_record_fault first meta ≡ Some rule
    → GivesUp (plan_of order first) meta frame (refusal_at meta rule)
unfolding records_bytes records_refusal
plan_of-refused order first meta frame rule is = grind arith

-- The packets so far of a feed that was `old` are written by a writer that was `from`.
pub record Recording (order : Order) (first : Interface) (old new : Feed) (failed_old failed_new : Bool)
    (from to : Writer) : Type 0 where
  pub went : Went old new
  pub ends : IsTrue old.told → SameEndings old new
  pub walk : Walking (plan_of order first) (plan_of order first) old new failed_old failed_new from to
