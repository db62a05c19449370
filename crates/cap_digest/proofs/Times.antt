-- Times in lowest terms: two times are the same exactly if they have the same form.
use Rattle.std.proofs.Common.{◌≡◌, ◌*◌, ◌/◌, ◌<◌, ◌∙◌, ℕ, ℤ, refl, sym, ap, arith, Equal, Option, Some, None}
use Rattle.std.proofs.Math.Nat.{lt_of_mul-lt-mul_right, eq_of_mul-eq-mul_right, mul-lt-mul_of_pos_right}
use Rattle.std.specs.Option.{option_map}
use Rattle.std.specs.Ordering.{ordering_then}
use Rattle.std.specs.Cmp.{int_cmp_is, nat_cmp_is}
use Rattle.cap_digest.proofs.Divisors.{common_divisor-is, common_divisor-positive, coprime, first-part, same-lowest}
use Rattle.cap_digest.proofs.Divisors.{second-part}
use Rattle.cap_digest.specs.Canonical.{canonical_form, common_divisor, in_lowest_terms}
use Rattle.cap_digest.specs.inner.Lowest.{IsLowest}
use Rattle.cap_time.specs.Stamp.{denominator_of, numerator_of, printed_of, seconds_of, stamp_cmp}
use Rattle.cap_time.specs.Clock.{clock_cmp}
use Rattle.cap_time.specs.Time.{Printed, time_at, time_cmp}
use Rattle.cap_time.specs.declared.stamps.Stamp.{Stamp}
use Rattle.cap_time.specs.inner.StampLaws.{denominator_positive, numerator_below, same_parts, stamp_cmp-parts}
use Rattle.cap_time.specs.inner.TimeLaws.{time_cmp-units}

-- times with the same seconds and the same fractions are the same
time_at-same : (s : ℤ) (n d m e : ℕ) → n < d → m < e → n * e ≡ m * d → time_cmp (time_at n d s) (time_at m e s) ≡ Equal
time_at-same s n d m e p q same =
    time_cmp-units s s n d m e p q
    ∙ sym (λ i. ordering_then (int_cmp_is s s Equal refl i) (nat_cmp_is (n * e) (m * d) Equal same i))

-- the part of the one number times the other, either way
crossed : (a b k l g : ℕ) → k * g ≡ a → l * g ≡ b → k * b ≡ a * l
crossed a b k l g p q = ap (λ (x : ℕ). k * x) (sym q) ∙ omega arith ∙ ap (λ (x : ℕ). x * l) p

parts-below : (a b k l g : ℕ) → k * g ≡ a → l * g ≡ b → a < b → k < l
parts-below a b k l g p q h = lt_of_mul-lt-mul_right g (omega (arith, p, q, h))

pub lowest-of : (stamp : Stamp) → IsLowest stamp (in_lowest_terms (printed_of stamp))
lowest-of stamp =
    let n = numerator_of stamp in
    let d = denominator_of stamp in
    let positive = denominator_positive stamp in
    let g = common_divisor n d in
    let some = common_divisor-positive n d positive in
    let first = first-part n d positive in
    let second = second-part n d positive in
    let below : n / g < d / g = parts-below n d (n / g) (d / g) g first second (numerator_below stamp) in
    record {
      below = below;
      coprime = coprime n d g (common_divisor-is n d positive) some;
      same = time_at-same (seconds_of stamp) (n / g) (d / g) n d below (numerator_below stamp)
          (crossed n d (n / g) (d / g) g first second);
    }

-- equal cross products of two pairs are equal ones of their parts
uncrossed : (n d m e p q r t g h : ℕ) → p * g ≡ n → q * g ≡ d → r * h ≡ m → t * h ≡ e → 0 < g → 0 < h → n * e ≡ m * d
    → p * t ≡ r * q
uncrossed n d m e p q r t g h a b c f some other same =
    let scaled : p * g * (t * h) ≡ r * h * (q * g) = (λ i. a i * f i) ∙ same ∙ (λ i. sym c i * sym b i) in
    eq_of_mul-eq-mul_right (g * h) (omega (arith, mul-lt-mul_of_pos_right {k = h} some other)) (p * t) (r * q)
    (omega (arith, scaled))

-- and the other way round
recrossed : (n d m e p q r t g h : ℕ) → p * g ≡ n → q * g ≡ d → r * h ≡ m → t * h ≡ e → p ≡ r → q ≡ t → n * e ≡ m * d
recrossed n d m e p q r t g h a b c f x y =
    (λ i. sym a i * sym f i) ∙ (λ i. x i * g * (sym y i * h)) ∙ omega arith ∙ (λ i. c i * b i)

-- stamps of the same time have the same form in lowest terms
pub same-form : (a b : Stamp) → stamp_cmp a b ≡ Equal
    → in_lowest_terms (printed_of a) ≡ in_lowest_terms (printed_of b)
same-form a b same =
    let n = numerator_of a in
    let d = denominator_of a in
    let m = numerator_of b in
    let e = denominator_of b in
    let p = denominator_positive a in
    let q = denominator_positive b in
    let parts : (seconds_of a ≡ seconds_of b) × (n * e ≡ m * d) = same_parts a b same in
    let first = lowest-of a in
    let second = lowest-of b in
    let fraction = same-lowest _ _ _ _ first.coprime second.coprime
    (uncrossed n d m e _ _ _ _ (common_divisor n d) (common_divisor m e) (first-part n d p) (second-part n d p)
    (first-part m e q) (second-part m e q) (common_divisor-positive n d p) (common_divisor-positive m e q) parts.1) in
    λ i. record { seconds = parts.0 i; numerator = fraction.0 i; denominator = fraction.1 i }

-- and stamps of the same form have the same time
pub form-same : (a b : Stamp) → in_lowest_terms (printed_of a) ≡ in_lowest_terms (printed_of b)
    → stamp_cmp a b ≡ Equal
form-same a b same =
    let n = numerator_of a in
    let d = denominator_of a in
    let m = numerator_of b in
    let e = denominator_of b in
    let p = denominator_positive a in
    let q = denominator_positive b in
    let crossed : n * e ≡ m * d = recrossed n d m e _ _ _ _ (common_divisor n d) (common_divisor m e) (first-part n d p)
    (second-part n d p) (first-part m e q) (second-part m e q) (ap (λ (form : Printed). form.numerator) same)
    (ap (λ (form : Printed). form.denominator) same) in
    stamp_cmp-parts a b
    ∙ sym (λ i. ordering_then
    (int_cmp_is (seconds_of a) (seconds_of b) Equal (ap (λ (form : Printed). form.seconds) same) i)
    (nat_cmp_is (n * e) (m * d) Equal crossed i))

-- a packet that has no time has another form than one that has a time
pub timeless : (stamp : Stamp) → 0 < (in_lowest_terms (printed_of stamp)).denominator
timeless stamp = omega (arith, (lowest-of stamp).below)

-- the times of two packets, if they have one, are the same exactly if they have the same form
pub same-canonical : (a b : Option Stamp) → clock_cmp a b ≡ Equal
    → canonical_form (option_map printed_of a) ≡ canonical_form (option_map printed_of b)
same-canonical None None same = refl
same-canonical (Some a) (Some b) same = same-form a b same
same-canonical a b same = cc

pub canonical-same : (a b : Option Stamp)
    → canonical_form (option_map printed_of a) ≡ canonical_form (option_map printed_of b) → clock_cmp a b ≡ Equal
canonical-same None None same = refl
canonical-same (Some a) (Some b) same = form-same a b same
canonical-same None (Some b) same = absurd (omega (arith, timeless b, ap (λ (form : Printed). form.denominator) same))
canonical-same (Some a) None same = absurd (omega (arith, timeless a, ap (λ (form : Printed). form.denominator) same))
