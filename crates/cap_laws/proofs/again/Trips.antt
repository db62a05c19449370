-- The times of a pcap file, written as pcap again.
use Rattle.std.proofs.lemmas.Grind.{common_steps}
use Rattle.std.proofs.Common.{◌≡◌, ◌∙◌, ℕ, ℤ, pos, ◌/◌, ◌%◌, ◌^◌, nat_lt, Option, Some, arith}
use Rattle.std.proofs.Math.Nat.{mul-mod_left, mul-div_cancel}
use Rattle.std.proofs.lemmas.Bool.{eq-eqb}
use Rattle.std.proofs.lemmas.Bool.Decides.{nat_tests}
use Rattle.cap_pcap.specs.declared.headers.PcapHeader.{PcapHeader}
use Rattle.cap_source.specs.Items.{interface_of, resolution_of_unit}
use Rattle.cap_time.specs.Code.{units_of_code}
use Rattle.cap_time.specs.Resolution.{units_of}
use Rattle.cap_time.proofs.StampForms.{whole_of-stamp_in}
use Rattle.cap_time.specs.Unit.{in_second}
use Rattle.cap_time.specs.declared.stamps.Unit.{Unit as Fraction}
use Rattle.cap_write.specs.Pcap.{fraction_of, whole_time, is_in_range}

-- a pcap file's interface counts in the fraction of its header, in which it is written again
pub units_of-unit : (unit : Fraction) → units_of (resolution_of_unit unit) ≡ in_second unit
unfolding units_of_code
units_of-unit unit = grind arith

pub fraction_of-header : (header : PcapHeader) → fraction_of (interface_of header) ≡ header.unit
fraction_of-header header = grind (arith, units_of-unit)

abbrev timed : ℕ → ℕ → Option (ℤ × ℕ)
timed s a = Some (pos s, a)

-- so each of its times is whole in it
pub whole_time-header : (header : PcapHeader) (units : ℕ)
    → whole_time header.unit (interface_of header) units
    ≡ Some (pos (units / in_second header.unit), units % in_second header.unit)
whole_time-header header units =
    whole_of-stamp_in (in_second header.unit) units (interface_of header)
    ∙ grind (arith, units_of-unit, eq-eqb, mul-mod_left, mul-div_cancel, common_steps, nat_tests)

-- and is written if its seconds fit
pub in_range-pos : (seconds : ℕ) → is_in_range (pos seconds) ≡ nat_lt seconds (2 ^ 32)
in_range-pos seconds = grind (arith, nat_tests)
