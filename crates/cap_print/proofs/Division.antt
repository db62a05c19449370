-- Long division ends, and the places are the fraction.
use Rattle.std.proofs.Common.{◌≡◌, ◌≢◌, ℕ, zero, suc, ◌+◌, ◌-◌, ◌*◌, ◌/◌, ◌%◌, ◌^◌, ◌<◌, ◌≤◌, ◌==◌, List, [], ◌∷◌}
use Rattle.std.proofs.Common.{Bool, true, false, cond, ◌&&◌, T, eqb, eqb→eq, eq-zero-or-pos, inl, inr}
use Rattle.std.proofs.Common.{length, refl, sym, ap, ◌∙◌, subst, arith, if◌then◌else◌}
use Rattle.std.proofs.Math.Nat.{mod-eq_of_lt, mul_comm, one-mul, pow-suc, pow-zero, zero-mod, zero-mul}
use Rattle.std.proofs.lemmas.Bool.{eqb-true, eqb-false}
use Rattle.std.proofs.lemmas.Bool.Decides.{nat_tests}
use Rattle.std.proofs.lemmas.Nat.{div-add-mod', mod_below, mul-mod_first}
use Rattle.std.specs.Char.{digit_value}
use Rattle.std.specs.Prelude.{IsTrue, nat_le}
use Rattle.std.specs.Str.Parse.{digits_value, digits_value_after}
use borrow.Author.Tests.{leb-true}
use lib.Ieee.Fits.{and_l, and_r}
use Rattle.cap_time.specs.Code.{exponent_of, is_allowed, is_binary, units_of_code}
use Rattle.cap_time.specs.Resolution.{units_of}
use Rattle.cap_time.specs.ResolutionLaws.{units_positive}
use Rattle.cap_time.specs.declared.resolutions.Resolution.{Resolution}
use Rattle.cap_print.specs.Decimals.{decimal_places, place_digits, places_until}

-- what is left of a fraction after some places
unfoldable pub left_after : ℕ → ℕ → ℕ → ℕ
left_after zero n d = n
left_after (suc k) n d = left_after k (n * 10 % d) d

-- ten times as much, and then some places
scaled : (n d k : ℕ) → (n * 10 % d) * 10 ^ k % d ≡ n * 10 ^ suc k % d
scaled n d k = mul-mod_first (n * 10) (10 ^ k) d ∙ ap (λ m. m % d) (omega (arith, ap (λ x. n * x) (pow-suc 10 k)))

left-is : (k n d : ℕ) → n < d → left_after k n d ≡ n * 10 ^ k % d
unfolding left_after
left-is zero n d h =
    sym (ap (λ m. m % d) {x = n * 10 ^ 0} {y = n} (omega (arith, pow-zero 10)) ∙ mod-eq_of_lt h)
left-is (suc k) n d h = left-is k (n * 10 % d) d (mod_below (n * 10) d (omega (arith, h))) ∙ scaled n d k

pub length-places : (k n d : ℕ) → length (place_digits k n d) ≡ k
unfolding place_digits
length-places zero n d = refl
length-places (suc k) n d = ap suc (length-places k (n * 10 % d) d)

pub digit-is : (q : ℕ) → q < 10 → digit_value (48 + q) ≡ q
digit-is q small = grind (arith, nat_tests, small)

-- digits after a number
pub value-after : (n : ℕ) (ds : List ℕ) → digits_value_after 10 n ds ≡ n * 10 ^ length ds + digits_value 10 ds
value-after n [] = omega arith
value-after n (c ∷ cs) =
    let a = value-after (n * 10 + digit_value c) cs in
    let b = value-after (0 * 10 + digit_value c) cs in
    omega (arith, a, b, ap (λ x. n * x) (pow-suc 10 (length cs)))

-- a digit before others
pub cons-value : (c q k : ℕ) (ds : List ℕ) → digit_value c ≡ q → length ds ≡ k
    → digits_value 10 (c ∷ ds) ≡ q * 10 ^ k + digits_value 10 ds
cons-value c q k ds is long =
    let first : 0 * 10 + q ≡ q = omega arith in
    value-after (0 * 10 + digit_value c) ds
    ∙ (λ i. (0 * 10 + is i) * 10 ^ long i + digits_value 10 ds)
    ∙ ap (λ m. m * 10 ^ k + digits_value 10 ds) first

place-below : (n d : ℕ) → n < d → n * 10 / d < 10
place-below n d h = grind (arith, h)

-- the places, and what is left, are the fraction
pub places-are : (k n d : ℕ) → n < d → digits_value 10 (place_digits k n d) * d + left_after k n d ≡ n * 10 ^ k
unfolding place_digits left_after
places-are zero n d h = omega arith
places-are (suc k) n d h =
    let q : ℕ = n * 10 / d in
    let r : ℕ = n * 10 % d in
    let more = places-are k r d (mod_below (n * 10) d (omega (arith, h))) in
    let value = cons-value (48 + q) q k (place_digits k r d) (digit-is q (place-below n d h)) (length-places k r d) in
    let turned : digits_value 10 ((48 + q) ∷ place_digits k r d) * d
    ≡ (q * 10 ^ k + digits_value 10 (place_digits k r d)) * d = ap (λ x. x * d) value in
    let tenfold : (q * d + r) * 10 ^ k ≡ n * 10 * 10 ^ k = ap (λ x. x * 10 ^ k) (div-add-mod' (n * 10) d) in
    omega (arith, turned, tenfold, more, ap (λ x. n * x) (pow-suc 10 k))

-- counted places leave nothing, if 63 leave nothing
counted : (most left d : ℕ) → left * 10 ^ most % d ≡ 0 → left * 10 ^ places_until most left d % d ≡ 0
unfolding places_until
counted zero left d none = none
counted (suc most) left d none =
    by (left == 0) refl (counted most (left * 10 % d) d (scaled left d most ∙ none)) where
      by : (test : Bool) → left == 0 ≡ test
          → (left * 10 % d) * 10 ^ places_until most (left * 10 % d) d % d ≡ 0
          → left * 10 ^ (if test then 0 else 1 + places_until most (left * 10 % d) d) % d ≡ 0
      by true is rest = ap (λ m. m * 1 % d) (eqb-true left 0 is) ∙ ap (λ m. m % d) {x = 0 * 1} {y = 0} refl ∙ zero-mod d
      by false is rest =
          let k : ℕ = places_until most (left * 10 % d) d in
          ap (λ e. left * 10 ^ e % d) {x = 1 + k} {y = suc k} (omega arith) ∙ sym (scaled left d k) ∙ rest

-- ---- the units that an interface may have

-- every fraction of such a power has at most 63 places
abbrev tens_end : ℕ → Bool
tens_end e = eqb (10 ^ 63 % 10 ^ e) 0

abbrev twos_end : ℕ → Bool
twos_end e = eqb (10 ^ 63 % 2 ^ e) 0

abbrev all_below : (ℕ → Bool) → ℕ → Bool
all_below test zero = true
all_below test (suc n) = test n && all_below test n

below : (test : ℕ → Bool) (n e : ℕ) → T (all_below test n) → e < n → T (test e)
below test zero e are lt = absurd (omega (arith, lt))
below test (suc n) e are lt =
    elim (eq-zero-or-pos (n - e)) [
      | inl last ↦ let is : e ≡ n = omega (arith, last, lt) in rw is (and_l _ (all_below test n) are)
      | inr more ↦ below test n e (and_r _ (all_below test n) are) (omega (arith, more))
    ]

end-by : (binary : Bool) (e : ℕ) → IsTrue (cond binary (nat_le e 63) (nat_le e 19))
    → 10 ^ 63 % (cond binary (2 ^ e) (10 ^ e)) ≡ 0
end-by true e h = eqb→eq _ _ (below twos_end 64 e tt (omega (arith, leb-true e 63 h)))
end-by false e h = eqb→eq _ _ (below tens_end 20 e tt (omega (arith, leb-true e 19 h)))

code-ends : (code : ℕ) → IsTrue (is_allowed code) → 10 ^ 63 % units_of_code code ≡ 0
unfolding units_of_code
code-ends code h = end-by (is_binary code) (exponent_of code) h

-- all places of a fraction of an interface's units are the fraction
pub all-places : (resolution : Resolution) (n d : ℕ) → d ≡ units_of resolution → n < d
    → digits_value 10 (place_digits (decimal_places d) n d) * d ≡ n * 10 ^ decimal_places d
all-places resolution n d is h =
    let k : ℕ = decimal_places d in
    let ends : 10 ^ 63 % d ≡ 0 = ap (λ m. 10 ^ 63 % m) is ∙ code-ends resolution.code resolution.allowed in
    let one : (1 % d) * 10 ^ 63 % d ≡ 0 =
    mul-mod_first 1 (10 ^ 63) d ∙ ap (λ m. m % d) {x = 1 * 10 ^ 63} {y = 10 ^ 63} refl ∙ ends in
    let none : 1 * 10 ^ k % d ≡ 0 = sym (mul-mod_first 1 (10 ^ k) d) ∙ counted 63 (1 % d) d one in
    let times : 10 ^ k * n % d ≡ 0 =
    sym (mul-mod_first (10 ^ k) n d) ∙ ap (λ m. m * n % d) (ap (λ m. m % d) (sym (one-mul (10 ^ k))) ∙ none)
    ∙ ap (λ m. m % d) (zero-mul n) ∙ zero-mod d in
    let left : left_after k n d ≡ 0 = left-is k n d h ∙ ap (λ m. m % d) (mul_comm n (10 ^ k)) ∙ times in
    omega (arith, places-are k n d h, left)
