-- A decimal fraction is read back as the same time.
use Rattle.std.proofs.Common.{◌≡◌, ◌≢◌, ℕ, zero, suc, ◌+◌, ◌-◌, ◌*◌, ◌/◌, ◌%◌, ◌^◌, ◌<◌, ◌≤◌, ◌==◌, List, [], ◌∷◌, ◌++◌}
use Rattle.std.proofs.Common.{Bool, true, false, ℤ, pos, negsuc, ◌+ℤ◌, ◌*ℤ◌, Equal, length, refl, sym, ap, ◌∙◌, subst}
use Rattle.std.proofs.Common.{arith, if◌then◌else◌, append-nil}
use Rattle.std.proofs.lemmas.Bool.{eqb-false}
use Rattle.std.proofs.lemmas.Bool.Decides.{nat_tests}
use Rattle.std.proofs.lemmas.Fmt.{decimal_is_IsNumeral_wide}
use Rattle.std.specs.Char.{digit_value}
use Rattle.std.specs.Cmp.{int_cmp_is}
use Rattle.std.specs.List.{list_any}
use Rattle.std.specs.Prelude.{codes, decimal, nat_abs, neg_ℤ, ⊤}
use Rattle.std.specs.Str.Parse.{AllDigits, digits_value}
use borrow.Author.Differences.{down, neg_is, product_is, same_in, sum_is_lem, up}
use Rattle.cap_time.specs.Time.{IsSameTime, Printed, Time, time_at, time_cmp}
use Rattle.cap_time.specs.inner.TimeLaws.{cross, cross_is}
use Rattle.cap_time.specs.Resolution.{units_of}
use Rattle.cap_time.specs.declared.resolutions.Resolution.{Resolution}
use Rattle.cap_print.proofs.Division.{all-places, length-places}
use Rattle.cap_print.specs.Decimals.{after_point, before_text, decimal_places, decimal_text, fraction_text}
use Rattle.cap_print.specs.Decimals.{place_digits, seconds_text, signed_text}
use Rattle.cap_print.specs.ReadTimes.{DecimalsReadBack, IsCounted, before_first, behind_first, decimal_time, exact_time}
use Rattle.cap_print.specs.ReadTimes.{fraction_time, negated_time, pointed_time, read_time}

-- ---- characters

-- each character of a text is a digit, from 0 (48) to 9 (57)
abbrev pub Digits : List ℕ → Type 0
Digits [] = ⊤
Digits (c ∷ cs) = (48 ≤ c) × (c ≤ 57) × Digits cs

digit-seen : (c : ℕ) → digit_value c < 10 → (48 ≤ c) × (c ≤ 57)
digit-seen c h = (grind (arith, nat_tests, h), grind (arith, nat_tests, h))

numeral-digits : (ds : List ℕ) → AllDigits 10 ds → Digits ds
numeral-digits [] all = tt
numeral-digits (c ∷ cs) all =
    let seen = digit-seen c all.0 in (seen.0, seen.1, numeral-digits cs all.1)

place-small : (n d : ℕ) → n < d → n * 10 / d < 10
place-small n d h = grind (arith, h)

place-left : (n d : ℕ) → n < d → n * 10 % d < d
place-left n d h = grind (arith, h)

pub places-digits : (k n d : ℕ) → n < d → Digits (place_digits k n d)
unfolding place_digits
places-digits zero n d h = tt
places-digits (suc k) n d h =
    (omega arith, omega (arith, place-small n d h), places-digits k (n * 10 % d) d (place-left n d h))

-- a character that is no digit
abbrev pub IsOther : ℕ → Type 0
IsOther code = (code == code ≡ true) × ((c : ℕ) → 48 ≤ c → c ≤ 57 → c == code ≡ false)

pub minus-other : IsOther 45
minus-other = (refl, λ c l h. grind (arith, nat_tests, l, h))

pub point-other : IsOther 46
point-other = (refl, λ c l h. grind (arith, nat_tests, l, h))

pub t-other : IsOther 84
t-other = (refl, λ c l h. grind (arith, nat_tests, l, h))

pub z-other : IsOther 90
z-other = (refl, λ c l h. grind (arith, nat_tests, l, h))

-- digits before such a character, or alone
pub before-other : (code : ℕ) (ds rest : List ℕ) → IsOther code → Digits ds
    → before_first code (ds ++ (code ∷ rest)) ≡ ds
before-other code [] rest other all = rw other.0 refl
before-other code (c ∷ ds) rest other all =
    rw (other.1 c all.0 all.1) (ap (λ l. c ∷ l) (before-other code ds rest other all.2))

pub behind-other : (code : ℕ) (ds rest : List ℕ) → IsOther code → Digits ds
    → behind_first code (ds ++ (code ∷ rest)) ≡ rest
behind-other code [] rest other all = rw other.0 refl
behind-other code (c ∷ ds) rest other all = rw (other.1 c all.0 all.1) (behind-other code ds rest other all.2)

pub before-none : (code : ℕ) (ds : List ℕ) → IsOther code → Digits ds → before_first code ds ≡ ds
before-none code [] other all = refl
before-none code (c ∷ ds) other all =
    rw (other.1 c all.0 all.1) (ap (λ l. c ∷ l) (before-none code ds other all.2))

pub behind-none : (code : ℕ) (ds : List ℕ) → IsOther code → Digits ds → behind_first code ds ≡ []
behind-none code [] other all = refl
behind-none code (c ∷ ds) other all = rw (other.1 c all.0 all.1) (behind-none code ds other all.2)

pub no-t : (ds rest : List ℕ) → Digits ds
    → list_any (λ c. c == 84) (ds ++ rest) ≡ list_any (λ c. c == 84) rest
no-t [] rest all = refl
no-t (c ∷ ds) rest all = rw (t-other.1 c all.0 all.1) (no-t ds rest all.2)

-- ---- times

-- times of the same cross product are the same
cross-same : (a b : Time) → a.numerator *ℤ pos b.denominator ≡ b.numerator *ℤ pos a.denominator → IsSameTime a b
unfolding time_cmp
cross-same a b e = sym (int_cmp_is _ _ Equal e)

-- a fraction that is the same in two units, after the same seconds
pub units-same : (s : ℤ) (v e n d : ℕ) → v * d ≡ n * e → IsSameTime (time_at v e s) (time_at n d s)
unfolding time_at cross
units-same s v e n d same =
    cross-same _ _ (same_in (cross s v e d) (cross s n d e)
    (omega (arith, same, cross_is s v e d, cross_is s n d e)))

-- the cross product of a negated time
negated : (x : ℤ) (d : ℕ) → (up (neg_ℤ x *ℤ pos d) ≡ down (x *ℤ pos d)) × (down (neg_ℤ x *ℤ pos d) ≡ up (x *ℤ pos d))
negated x d =
    let p = product_is (neg_ℤ x) (pos d) in
    let q = product_is x (pos d) in
    let n = neg_is x in (
      p.0 ∙ (λ i. n.0 i * d + n.1 i * 0) ∙ (omega arith) ∙ sym q.1,
      p.1 ∙ (λ i. n.0 i * 0 + n.1 i * d) ∙ (omega arith) ∙ sym q.0,
    )

-- a time before second 0, by its whole seconds and a fraction before them
before-by : (t w v e n d : ℕ) → t * (e * d) + v * d + n * e ≡ (w + 1) * (d * e)
    → IsSameTime (negated_time (time_at v e (pos t))) (time_at n d (negsuc w))
unfolding time_at cross
before-by t w v e n d same =
    let x : ℤ = pos v +ℤ pos t *ℤ pos e in
    let turned = negated x d in
    let own : up (cross (pos t) v e d) + 0 * (e * d) ≡ down (cross (pos t) v e d) + v * d + t * (e * d) =
    cross_is (pos t) v e d in
    let other : up (cross (negsuc w) n d e) + suc w * (d * e) ≡ down (cross (negsuc w) n d e) + n * e + 0 * (d * e) =
    cross_is (negsuc w) n d e in
    cross-same _ _ (same_in (neg_ℤ x *ℤ pos d) (cross (negsuc w) n d e)
    (omega (arith, same, turned.0, turned.1, own, other)))

pub before-same : (w v e n d : ℕ) → n < d → v * d ≡ (d - n) * e
    → IsSameTime (negated_time (time_at v e (pos w))) (time_at n d (negsuc w))
before-same w v e n d below same =
    let whole : (d - n + n) * e ≡ d * e = ap (λ x. x * e) (omega (arith, below)) in
    before-by w w v e n d (omega (arith, same, whole))

pub before-whole : (w v e d : ℕ) → v * d ≡ 0 * e
    → IsSameTime (negated_time (time_at v e (pos (w + 1)))) (time_at 0 d (negsuc w))
before-whole w v e d same = before-by (w + 1) w v e 0 d (omega (arith, same))

-- ---- the text

-- The fraction of a text is the time of whole seconds and the places after them.
fraction-by : (w k n d : ℕ) → w < 10 ^ 64 → n < d
    → fraction_time (decimal w ++ after_point (place_digits k n d)) ≡ pointed_time (pos w) (place_digits k n d)
unfolding place_digits
fraction-by w zero n d small h =
    let numeral = decimal_is_IsNumeral_wide w small in
    let all = numeral-digits (decimal w) numeral.0.1 in
    rw (append-nil, before-none 46 (decimal w) point-other all, behind-none 46 (decimal w) point-other all, numeral.1)
    refl
fraction-by w (suc k) n d small h =
    let numeral = decimal_is_IsNumeral_wide w small in
    let all = numeral-digits (decimal w) numeral.0.1 in
    rw (before-other 46 (decimal w) _ point-other all, behind-other 46 (decimal w) _ point-other all, numeral.1)
    refl

pub fraction-is : (w n d : ℕ) → w < 10 ^ 64 → n < d
    → fraction_time (seconds_text w n d) ≡ pointed_time (pos w) (place_digits (decimal_places d) n d)
fraction-is w n d small h = fraction-by w (decimal_places d) n d small h

-- no character of it is a T
no-t-point : (k n d : ℕ) → n < d → list_any (λ c. c == 84) (after_point (place_digits k n d)) ≡ false
unfolding place_digits
no-t-point zero n d h = refl
no-t-point (suc k) n d h =
    let digits : List ℕ = place_digits (suc k) n d in
    ap (λ (l : List ℕ). list_any (λ c. c == 84) l) (sym (append-nil digits))
    ∙ no-t digits [] (places-digits (suc k) n d h)

pub no-t-seconds : (w n d : ℕ) → w < 10 ^ 64 → n < d → list_any (λ c. c == 84) (seconds_text w n d) ≡ false
no-t-seconds w n d small h =
    let all = numeral-digits (decimal w) (decimal_is_IsNumeral_wide w small).0.1 in
    no-t (decimal w) (fraction_text n d) all ∙ no-t-point (decimal_places d) n d h

-- its first character is a digit
unsigned : (ds rest : List ℕ) → 0 < length ds → Digits ds → decimal_time (ds ++ rest) ≡ fraction_time (ds ++ rest)
unsigned [] rest some all = absurd (omega (arith, some))
unsigned (c ∷ ds) rest some all = rw (minus-other.1 c all.0 all.1) refl

pub first-digit : (w n d : ℕ) → w < 10 ^ 64 → decimal_time (seconds_text w n d) ≡ fraction_time (seconds_text w n d)
first-digit w n d small =
    let numeral = decimal_is_IsNumeral_wide w small in
    unsigned (decimal w) (fraction_text n d) numeral.0.0 (numeral-digits (decimal w) numeral.0.1)

-- the places of a fraction of an interface's units are the fraction
pub places-same : (resolution : Resolution) (n d : ℕ) → d ≡ units_of resolution → n < d
    → digits_value 10 (place_digits (decimal_places d) n d) * d
    ≡ n * 10 ^ length (place_digits (decimal_places d) n d)
places-same resolution n d units h =
    all-places resolution n d units h ∙ ap (λ m. n * 10 ^ m) (sym (length-places (decimal_places d) n d))

pub read-back : (s : ℤ) (n d : ℕ) (resolution : Resolution) → d ≡ units_of resolution → n < d → nat_abs s < 10 ^ 64
    → IsSameTime (read_time (signed_text s n d)) (time_at n d s)
read-back (pos w) n d resolution units h small =
    rw (no-t-seconds w n d small h, first-digit w n d small, fraction-is w n d small h)
    (units-same (pos w) _ _ n d (places-same resolution n d units h))
read-back (negsuc w) zero d resolution units h small =
    let fits : w + 1 < 10 ^ 64 = omega (arith, small) in
    rw (no-t-seconds (w + 1) 0 d fits h, fraction-is (w + 1) 0 d fits h)
    (before-whole w _ _ d (places-same resolution 0 d units h))
read-back (negsuc w) (suc n) d resolution units h small =
    let fits : w < 10 ^ 64 = omega (arith, small) in
    let below : d - suc n < d = omega (arith, h) in
    rw (no-t-seconds w (d - suc n) d fits below, fraction-is w (d - suc n) d fits below)
    (before-same w _ _ (suc n) d h (places-same resolution (d - suc n) d units below))

pub decimals-read-back : DecimalsReadBack
decimals-read-back time counted =
    read-back time.seconds time.numerator time.denominator counted.resolution counted.units counted.below
    counted.digits
