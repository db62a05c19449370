-- What calls for a packet's time answer.
use Rattle.std.specs.Prelude.{◌≡◌, ℕ, pos, List, ⊤, Some, None, Result, Ok, Err}
use Rattle.cap_bytes.specs.declared.faults.Fault.{Fault}
use Rattle.cap_bytes.specs.declared.faults.Fault.TheVariants.{Refused, Read, Write, Memory}
use Rattle.cap_bytes.specs.declared.faults.Rule.{Rule}
use Rattle.cap_pcap.specs.declared.records.RecordTime.{RecordTime}
use Rattle.cap_source.specs.Feed.{Item}
use Rattle.cap_source.specs.declared.packets.Meta.{Meta}
use Rattle.cap_time.specs.declared.resolutions.Interface.{Interface}
use Rattle.cap_time.specs.declared.stamps.Unit.{Unit as Fraction}
use Rattle.cap_write.specs.Numbering.{refusal_at}
use Rattle.cap_write.specs.Pcap.{whole_time, time_fault, written_time, written_record_fault, bare_refusal}

-- The time is written as those whole seconds and that fraction, or is refused.
abbrev pub HasTime : Fraction → Meta → ℕ → Result RecordTime Fault → Type 0
HasTime fraction meta units (Ok time) =
    (whole_time fraction meta.interface units ≡ Some (pos time.seconds, time.fraction))
    × (time_fault (whole_time fraction meta.interface units) ≡ None)
HasTime fraction meta units (Err (Refused refusal)) =
    (rule : Rule) × (time_fault (whole_time fraction meta.interface units) ≡ Some rule)
    × (refusal ≡ refusal_at meta rule)
HasTime fraction meta units (Err (Read file offset)) = ⊥
HasTime fraction meta units (Err Write) = ⊥
HasTime fraction meta units (Err Memory) = ⊥

-- The packet is written with that time, or is refused.
abbrev pub HasRecord : Interface → Meta → Result RecordTime Fault → Type 0
HasRecord first meta (Ok time) =
    (written_record_fault first meta ≡ None)
    × (written_time first meta ≡ Some (pos time.seconds, time.fraction))
HasRecord first meta (Err (Refused refusal)) =
    (rule : Rule) × (written_record_fault first meta ≡ Some rule) × (refusal ≡ refusal_at meta rule)
HasRecord first meta (Err (Read file offset)) = ⊥
HasRecord first meta (Err Write) = ⊥
HasRecord first meta (Err Memory) = ⊥

-- A file that describes no interface is refused, unless a device or memory fails.
abbrev pub IsBare : ℕ → List Item → Result (Unit {0}) Fault → Type 0
IsBare file items (Ok x) = ⊥
IsBare file items (Err (Refused refusal)) = bare_refusal file items ≡ refusal
IsBare file items (Err (Read place offset)) = ⊤
IsBare file items (Err Write) = ⊥
IsBare file items (Err Memory) = ⊤
