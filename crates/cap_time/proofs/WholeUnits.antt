-- When a time is a whole number of other units.
use Rattle.std.proofs.Common.{◌≡◌, ℕ, ◌+◌, ◌*◌, ◌/◌, ◌%◌, ◌<◌, refl, sym, ap, ◌∙◌, arith, ℤ, Equal}
use Rattle.std.proofs.lemmas.Nat.{div-mul-add, mod-mul-add}
use Rattle.std.specs.Ordering.{int_cmp, nat_cmp}
use Rattle.std.specs.Cmp.{ranked}
use Rattle.cap_time.specs.Time.{time_at, IsWholeTime, IsNeverWhole}
use Rattle.cap_time.specs.inner.TimeLaws.{time_cmp-units}
use Rattle.std.specs.Prelude.{Bool, Some, None, MatchOption, ◌==◌, if◌then◌else◌}
use Rattle.cap_time.specs.declared.stamps.Stamp.{Stamp}
use Rattle.cap_time.specs.Stamp.{seconds_of, numerator_of, denominator_of, time_of, whole_of}
use Rattle.cap_time.specs.inner.StampLaws.{both_equal, numerator_below}
use Rattle.cap_time.specs.declared.stamps.Unit.{Unit as Fraction}
use Rattle.cap_time.specs.Unit.{in_second}

-- a fraction of a second is below a second's worth
pub whole_below : (n d e : ℕ) → n < d → 0 < e → n * e / d < e
whole_below n d e h p = grind arith

pub whole_here : (s : ℤ) (n d e : ℕ) → n < d → 0 < e → n * e % d ≡ 0 → IsWholeTime e (time_at n d s) s (n * e / d)
whole_here s n d e h p exact = grind (arith, whole_below, time_cmp-units)

pub whole_nowhere : (s : ℤ) (n d e : ℕ) → n < d → ¬ (n * e % d ≡ 0) → (z : ℤ) (u : ℕ)
    → ¬ (IsWholeTime e (time_at n d s) z u)
whole_nowhere s n d e h inexact z u whole =
    let both : (int_cmp s z ≡ Equal) × (nat_cmp (n * e) (u * d) ≡ Equal) =
    both_equal (int_cmp s z) (nat_cmp (n * e) (u * d)) (sym (time_cmp-units s z n d u e h whole.below)
    ∙ whole.same) in
    let same : n * e ≡ u * d = ranked (n * e) (u * d) Equal (sym both.1) in
    let multiple : (u * d + 0) % d ≡ 0 = mod-mul-add u d 0 (omega arith) in
    let plain : u * d + 0 ≡ n * e = omega (arith, same) in
    inexact (sym (ap (λ (x : ℕ). x % d) plain) ∙ multiple)

pub ruleset whole_units = (whole_here, whole_nowhere, whole_below)

pub in_second_positive : (unit : Fraction) → 0 < in_second unit
in_second_positive unit = grind arith

whole_case : (s : ℤ) (n d e : ℕ) → n < d → 0 < e → (b : Bool) → (n * e % d == 0) ≡ b
    → MatchOption {T = ℤ × ℕ} (if b then Some (s, n * e / d) else None) (IsNeverWhole e (time_at n d s))
    (λ w. IsWholeTime e (time_at n d s) w.0 w.1)
whole_case s n d e h p b test = grind (arith, whole_here, whole_nowhere)

-- what `whole_of` answers: the one pair that is the time, or nothing if there is none
pub whole_of_pair : (e : ℕ) (a : Stamp) → 0 < e
    → MatchOption {T = ℤ × ℕ} (whole_of e a) (IsNeverWhole e (time_of a)) (λ w. IsWholeTime e (time_of a) w.0 w.1)
whole_of_pair e a p = whole_case (seconds_of a) (numerator_of a) (denominator_of a) e (numerator_below a) p _ refl

-- units of the size that they have already
pub whole_same : (n d e : ℕ) → n < d → d ≡ e → Some n ≡ (if n * e % d == 0 then Some (n * e / d) else None)
whole_same n d e h same = grind (arith, mod-mul-add n d 0, div-mul-add n d 0)

pub whole_some : (e u : ℕ) (z : ℤ) (a : Stamp) → 0 < e → whole_of e a ≡ Some (z, u) → IsWholeTime e (time_of a) z u
whole_some e u z a p is = grind (arith, whole_of_pair e a p)

pub whole_none : (e : ℕ) (a : Stamp) → 0 < e → whole_of e a ≡ None → IsNeverWhole e (time_of a)
whole_none e a p is = grind (arith, whole_of_pair e a p)
