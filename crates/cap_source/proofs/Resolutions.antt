-- Resolutions by their codes.
use Rattle.std.proofs.Common.{arith, ◌≡◌, ℕ, Bool, true, false, Option, Some, None, IsSome, IfSome, IsTrue, ◌↔◌, refl}
use Rattle.std.proofs.Common.{ap}
use Rattle.cap_time.specs.Code.{is_allowed}
use Rattle.cap_time.specs.Resolution.{code_of}
use Rattle.cap_time.specs.declared.resolutions.Resolution.{Resolution}
use Rattle.cap_time.proofs.Codes.{resolution_from, same_resolution}
use Rattle.cap_time.specs.declared.stamps.Unit.TheVariants.{Nano}
use Rattle.cap_source.specs.Items.{resolution_of_unit}
use Rattle.cap_source.specs.TimeBases.{resolution_if, resolution_of, microseconds}

pub same_microseconds : (r : Resolution) → code_of r ≡ 6 → r ≡ microseconds
same_microseconds r e = same_resolution r microseconds e

pub same_nanoseconds : (r : Resolution) → code_of r ≡ 9 → r ≡ resolution_of_unit Nano
same_nanoseconds r e = same_resolution r (resolution_of_unit Nano) e

pub ruleset same_of_unit = (same_microseconds, same_nanoseconds)

some_if : (code : ℕ) (allowed : Bool) (is : is_allowed code ≡ allowed) (r : Resolution) → r.code ≡ code
    → Some r ≡ resolution_if code allowed is
some_if code true is r e = ap Some (same_resolution r (resolution_from code is) e)
some_if code false is r e = cc

none_if : (code : ℕ) (allowed : Bool) (is : is_allowed code ≡ allowed) → (IsTrue (is_allowed code) → ⊥)
    → None ≡ resolution_if code allowed is
none_if code allowed is h = grind arith

-- what is made of a code
pub from_code_is : (code : ℕ) (o : Option Resolution) → IsSome o ↔ IsTrue (is_allowed code)
    → IfSome o (λ r. code_of r ≡ code) → o ≡ resolution_of code
unfolding resolution_of
from_code_is code (Some r) both is = some_if code (is_allowed code) refl r is
from_code_is code None both is = none_if code (is_allowed code) refl (λ a. let e = both.1 a in absurd (cc))
