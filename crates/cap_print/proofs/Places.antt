-- The steps of long division, one place after another.
use Rattle.std.proofs.Common.{◌≡◌, ◌≢◌, ℕ, zero, suc, ◌+◌, ◌-◌, ◌*◌, ◌/◌, ◌%◌, ◌<◌, ◌≤◌, ◌==◌, List, [], ◌∷◌, ◌++◌}
use Rattle.std.proofs.Common.{length, take, refl, sym, ap, ◌∙◌, arith, append_assoc, if◌then◌else◌}
use Rattle.std.specs.Prelude.{slice_set}
use Rattle.std.proofs.lemmas.Bool.Decides.{nat_tests}
use Rattle.std.proofs.lemmas.List.{append-nil, length-set, take_all, take_more_set}
use Rattle.cap_print.specs.Decimals.{after_point, place_digits, places_until}

-- nothing left has no more places
pub places-done : (most denominator : ℕ) → places_until most 0 denominator ≡ 0
unfolding places_until
places-done zero denominator = refl
places-done (suc most) denominator = refl

-- no place is left to count
pub places-none : (left denominator : ℕ) → places_until 0 left denominator ≡ 0
unfolding places_until
places-none left denominator = refl

places-step : (most left denominator : ℕ) → left ≢ 0
    → places_until (suc most) left denominator ≡ 1 + places_until most (left * 10 % denominator) denominator
unfolding places_until
places-step most left denominator some = grind (arith, nat_tests, some)

-- one more place is counted
pub places-more : (places left denominator all : ℕ) → places < 63 → left ≢ 0
    → all ≡ places + places_until (63 - places) left denominator
    → all ≡ places + 1 + places_until (63 - (places + 1)) (left * 10 % denominator) denominator
places-more places left denominator all few some before =
    let more : 63 - places ≡ suc (63 - (places + 1)) = omega arith in
    let step = places-step (63 - (places + 1)) left denominator some in
    let now : all ≡ places + places_until (suc (63 - (places + 1))) left denominator = rw more at before in
    omega (arith, now, step)

-- one more digit is written
pub digits-more : (output : List ℕ) (i left denominator : ℕ) (all : List ℕ) (digit : ℕ) → i < length output
    → digit ≡ 48 + left * 10 / denominator
    → take i output ++ place_digits (length output - i) left denominator ≡ all
    → take (i + 1) (slice_set output i digit)
    ++ place_digits (length (slice_set output i digit) - (i + 1)) (left * 10 % denominator) denominator
    ≡ all
unfolding place_digits
digits-more output i left denominator all digit within is before =
    let more : length output - i ≡ suc (length output - (i + 1)) = omega arith in
    let len : length (slice_set output i digit) ≡ length output = length-set output i digit in
    let first = take_more_set output i digit within in
    rw (len, first, append_assoc, is) (rw more at before)

-- all digits are written
pub digits-done : (output : List ℕ) (i left denominator : ℕ) (all : List ℕ) → length output ≤ i
    → take i output ++ place_digits (length output - i) left denominator ≡ all → output ≡ all
unfolding place_digits
digits-done output i left denominator all end before =
    let none : length output - i ≡ 0 = omega arith in
    let whole = take_all i output end in
    rw (none, whole, append-nil) at before

-- a point is put before places, of which there are some, or none
pub point-before : (places numerator denominator : ℕ) (rest : List ℕ) → 0 < places
    → after_point (place_digits places numerator denominator) ++ rest
    ≡ 46 ∷ (place_digits places numerator denominator ++ rest)
unfolding place_digits
point-before zero numerator denominator rest some = absurd (omega (arith, some))
point-before (suc places) numerator denominator rest some = refl

pub no-point : (places numerator denominator : ℕ) (rest : List ℕ) → places ≤ 0
    → after_point (place_digits places numerator denominator) ++ rest ≡ rest
unfolding place_digits
no-point zero numerator denominator rest none = refl
no-point (suc places) numerator denominator rest none = absurd (omega (arith, none))
