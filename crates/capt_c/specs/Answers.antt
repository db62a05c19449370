-- A call's answer in numbers.
use Rattle.std.specs.Prelude.{ℕ, Bool, true, false, Result, Ok, Err}
use Rattle.cap_bytes.specs.Rules.{rule_number}
use Rattle.cap_bytes.specs.declared.faults.Fault.{Fault}
use Rattle.cap_bytes.specs.declared.faults.Fault.TheVariants.{Refused, Read, Write, Memory}
use Rattle.cap_bytes.specs.declared.formats.Format.{Format}
use Rattle.cap_bytes.specs.declared.formats.Format.TheVariants.{Pcap, Pcapng}
use Rattle.cap_bytes.specs.declared.numbers.Order.{Order}
use Rattle.cap_bytes.specs.declared.numbers.Order.TheVariants.{Big, Little}
use Rattle.capt_c.specs.declared.answers.CPlace.{CPlace}

-- the status of a call that returns that fault
abbrev pub status_of : Fault → ℕ
status_of (Refused refusal) = 2
status_of (Read file offset) = 3
status_of Write = 4
status_of Memory = 5

abbrev pub nowhere : CPlace
nowhere = record { offset = 0; file = 0; rule = 0 }

abbrev pub place_of_fault : Fault → CPlace
place_of_fault (Refused refusal) = record {
  offset = refusal.offset;
  file = refusal.file;
  rule = rule_number
      refusal.rule;
}
place_of_fault (Read file offset) = record { offset = offset; file = file; rule = 0 }
place_of_fault Write = nowhere
place_of_fault Memory = nowhere

-- the status of a call that returns that: what it returns without a fault has the status that `of_success` gives
abbrev pub status_of_result : {A : Type 0} → (A → ℕ) → Result A Fault → ℕ
status_of_result of_success (Ok success) = of_success success
status_of_result of_success (Err fault) = status_of fault

-- the place of a call that returns that: none if there is no fault
abbrev pub place_of_result : {A : Type 0} → Result A Fault → CPlace
place_of_result (Ok success) = nowhere
place_of_result (Err fault) = place_of_fault fault

-- the status of a call that returns no value: done
abbrev pub status_of_unit : Unit {0} → ℕ
status_of_unit unit = 0

-- the byte order of what is written
abbrev pub order_of : Bool → Order
order_of true = Big
order_of false = Little

-- the format of what is written
abbrev pub format_of : Bool → Format
format_of true = Pcap
format_of false = Pcapng
