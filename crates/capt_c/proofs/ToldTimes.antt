-- The time that numbers tell, and the units of an interface.
use Rattle.std.proofs.Common.{◌≡◌, ◌≤◌, ◌<◌, ◌^◌, ◌+◌, ◌*◌, ◌/◌, ◌%◌, ◌+ℤ◌, pos, ℕ, ℤ, Option, Some, None, IfSome}
use Rattle.std.proofs.Common.{arith, refl, sym, ap, ◌∙◌, subst}
use Rattle.std.proofs.Math.Nat.{div-add-mod, mod-lt}
use Rattle.std.proofs.lemmas.Nat.{div-mul-add, mod-mul-add}
use Rattle.cap_time.proofs.StampForms.{seconds_of-stamp_in}
use Rattle.cap_time.specs.Code.{units_of_code}
use Rattle.cap_time.specs.Resolution.{code_of, units_of}
use Rattle.cap_time.specs.ResolutionLaws.{units_positive}
use Rattle.cap_time.specs.Stamp.{stamp_in, seconds_of, numerator_of, denominator_of}
use Rattle.cap_time.specs.declared.resolutions.Interface.{Interface}
use Rattle.cap_time.specs.declared.resolutions.Resolution.{Resolution}
use Rattle.capt_c.proofs.NearTimes.{fraction}
use Rattle.capt_c.specs.Told.{HasElapsed, IsInUnits, TellsInterface, TellsUnits}
use Rattle.capt_c.specs.declared.packets.CPacket.{CPacket}

-- whole seconds and units above them are a time
pub told-time : (time offset : ℤ) (interface : Interface) (whole units numerator denominator : ℕ)
    → offset ≡ interface.offset → denominator ≡ units_of interface.resolution → numerator < denominator
    → time ≡ offset +ℤ pos whole → units ≡ whole * denominator + numerator
    → (time ≡ seconds_of (stamp_in units interface)) × (numerator ≡ numerator_of (stamp_in units interface))
    × (denominator ≡ denominator_of (stamp_in units interface))
told-time time offset interface whole units numerator denominator from in_second few is sum =
    let d = units_of interface.resolution in
    let fits : numerator < d = subst (λ n. numerator < n) in_second few in
    let whole_units : units ≡ whole * d + numerator = sum ∙ ap (λ n. whole * n + numerator) in_second in
    let parts = fraction units interface in (
      is
          ∙ (ap (λ z. z +ℤ pos whole) from
          ∙ (ap (λ n. interface.offset +ℤ pos n)
          (sym (ap (λ n. n / d) whole_units ∙ div-mul-add whole d numerator fits))
          ∙ sym (seconds_of-stamp_in units interface))),
      sym (parts.0 ∙ (ap (λ n. n % d) whole_units ∙ mod-mul-add whole d numerator fits)),
      in_second ∙ sym parts.1,
    )

-- what numbers tell if they tell that many units
pub record Parts (p : CPacket) (units : ℕ) : Type 0 where
  pub in_units : IsInUnits p
  pub whole : ℕ
  pub is : HasElapsed p whole
  pub sum : units ≡ whole * p.denominator + p.numerator

pub parts-of : (p : CPacket) (interface : Interface) (units : ℕ) → TellsInterface p interface
    → TellsUnits p interface (Some units) → Parts p units
parts-of p interface units interface_is tells =
    let d = units_of interface.resolution in
    let parts = fraction units interface in
    let is_d : p.denominator ≡ d = tells.0.2 ∙ parts.1 in
    let is_n : p.numerator ≡ units % d = tells.0.1 ∙ parts.0 in
    let positive = units_positive interface.resolution in
    record {
      in_units = (
        is_d ∙ sym interface_is.resolution,
        subst (λ n. n < p.denominator) (sym is_n) (subst (λ e. units % d < e) (sym is_d) (mod-lt units positive)),
      );
      whole = units / d;
      is = tells.0.0 ∙ (seconds_of-stamp_in units interface
          ∙ ap (λ z. z +ℤ pos (units / d)) (sym interface_is.offset));
      sum = omega (arith, div-add-mod units d, is_d, is_n, ap (λ e. units / d * e) is_d);
    }

-- numbers that tell no fraction in units of an interface tell no time
pub none-in-units : (p : CPacket) (interface : Interface) (units : Option ℕ) → (p.denominator ≡ 0 → ⊥)
    → (IsInUnits p → ⊥) → TellsInterface p interface → TellsUnits p interface units → ⊥
none-in-units p interface None timed outside interface_is tells = timed tells.0
none-in-units p interface (Some units) timed outside interface_is tells =
    outside (parts-of p interface units interface_is tells).in_units

-- nor do those of a time whose units don't fit
pub none-counted : (p : CPacket) (interface : Interface) (units : Option ℕ) → (p.denominator ≡ 0 → ⊥)
    → ((whole : ℕ) → HasElapsed p whole → 2 ^ 64 ≤ whole * p.denominator + p.numerator)
    → TellsInterface p interface → TellsUnits p interface units → ⊥
none-counted p interface None timed late interface_is tells = timed tells.0
none-counted p interface (Some units) timed late interface_is tells =
    let parts = parts-of p interface units interface_is tells in
    omega (arith, late parts.whole parts.is, parts.sum, tells.1)

-- ---- resolutions

pub by-code : (result : Option Resolution) (code units : ℕ) → IfSome result (λ r. code_of r ≡ code)
    → IfSome result (λ r. units_of r ≡ units_of_code code) → units_of_code code ≡ units → (code ≡ 128 → ⊥)
    → IfSome result (λ r. (units_of r ≡ units) × (code_of r ≡ 128 → ⊥))
by-code None code units is in_second same decimal = tt
by-code (Some r) code units is in_second same decimal = (in_second ∙ same, λ e. decimal (sym is ∙ e))

pub micro : units_of_code 6 ≡ 1000000
unfolding units_of_code
micro = refl

pub nano : units_of_code 9 ≡ 1000000000
unfolding units_of_code
nano = refl
