-- The table of the powers of ten.
use Rattle.std.proofs.Common.{◌≡◌, ℕ, zero, suc, ◌-◌, ◌^◌, ◌<◌, Bool, true, ◌&&◌, T, eqb, get_or, arith}
use Rattle.std.proofs.Common.{inl, inr, eq-zero-or-pos, eqb→eq}
use lib.Ieee.Fits.{and_l, and_r}
use Rattle.std.specs.Prelude.{IsTrue, ◌%◌, ◌≤◌}
use Rattle.cap_time.specs.Code.{is_allowed, units_of_code}
use Rattle.cap_time.specs.declared.resolutions.TheConstants.{POWERS_OF_TEN}

-- the number at a place is that power
abbrev is_power : ℕ → Bool
is_power e = eqb (get_or POWERS_OF_TEN e 0) (10 ^ e)

-- the numbers at the places below n are
abbrev are_powers : ℕ → Bool
are_powers zero = true
are_powers (suc n) = is_power n && are_powers n

below : (n e : ℕ) → T (are_powers n) → e < n → T (is_power e)
below zero e are lt = absurd (omega arith)
below (suc n) e are lt =
    elim (eq-zero-or-pos (n - e)) [
      | inl last ↦ let same : e ≡ n = omega arith in rw same (and_l _ (are_powers n) are)
      | inr more ↦ below n e (and_r _ (are_powers n) are) (omega arith)
    ]

pub power_at : (e : ℕ) → e < 20 → get_or POWERS_OF_TEN e 0 ≡ 10 ^ e
power_at e lt = eqb→eq _ _ (below 20 e tt lt)

-- the exponents that are allowed, and what they say
pub exponent_of_ten : (code : ℕ) → IsTrue (is_allowed code) → code < 128 → code % 128 ≤ 19
exponent_of_ten code allowed small = grind arith

pub exponent_of_two : (code : ℕ) → IsTrue (is_allowed code) → 128 ≤ code → code % 128 ≤ 63
exponent_of_two code allowed great = grind arith

pub units_of_ten : (code : ℕ) → code < 128 → units_of_code code ≡ 10 ^ (code % 128)
unfolding units_of_code
units_of_ten code small = grind arith

pub units_of_two : (code : ℕ) → 128 ≤ code → units_of_code code ≡ 2 ^ (code % 128)
unfolding units_of_code
units_of_two code great = grind arith
