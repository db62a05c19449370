-- A whole number is read back from its digits, whatever follows them that isn't a digit.
use Rattle.std.proofs.Common.{◌≡◌, ◌<◌, ◌≤◌, ◌/◌, ◌%◌, ◌^◌, ℕ, zero, suc, List, [], ◌∷◌, ◌++◌, drop, get_or, length}
use Rattle.std.proofs.Common.{refl, sym, ap, ◌∙◌, subst}
use Rattle.std.proofs.Common.{arith, Bool, true, false, ◌==◌}
use Rattle.std.proofs.Math.Nat.{pow-suc}
use Rattle.std.proofs.lemmas.Bool.{eqb-true, eqb-false}
use Rattle.std.proofs.lemmas.Bool.Decides.{nat_tests}
use Rattle.std.specs.Prelude.{ℤ, pos, negsuc, nat_abs, decimal}
use Rattle.std.specs.Char.{digit_value}
use Rattle.std.specs.Fmt.{digits, digits_onto, digit_glyph, signed_decimal}
use Rattle.std.specs.Str.Parse.{AllDigits, digits_value, digits_value_after}
use Rattle.cap_laws.specs.JsonLines.{whole_text}

glyph-is : (d : ℕ) → d < 10 → (digit_value (digit_glyph false d) ≡ d) × (digit_value (digit_glyph false d) < 10)
glyph-is zero small = (refl, omega arith)
glyph-is (suc zero) small = (refl, omega arith)
glyph-is (suc (suc zero)) small = (refl, omega arith)
glyph-is (suc (suc (suc zero))) small = (refl, omega arith)
glyph-is (suc (suc (suc (suc zero)))) small = (refl, omega arith)
glyph-is (suc (suc (suc (suc (suc zero))))) small = (refl, omega arith)
glyph-is (suc (suc (suc (suc (suc (suc zero)))))) small = (refl, omega arith)
glyph-is (suc (suc (suc (suc (suc (suc (suc zero))))))) small = (refl, omega arith)
glyph-is (suc (suc (suc (suc (suc (suc (suc (suc zero)))))))) small = (refl, omega arith)
glyph-is (suc (suc (suc (suc (suc (suc (suc (suc (suc zero))))))))) small = (refl, omega arith)
glyph-is (suc (suc (suc (suc (suc (suc (suc (suc (suc (suc d)))))))))) small = absurd (omega (arith, small))

-- what the digits of a number before some digits are: digits, at least one, that read the number and then the others
IsSpelled : ℕ → List ℕ → List ℕ → Type 0
IsSpelled n acc ds = (0 < length ds) × AllDigits 10 ds × (digits_value 10 ds ≡ digits_value_after 10 n acc)

onto-by : (k n : ℕ) (acc : List ℕ) (last : Bool) → n / 10 == 0 ≡ last → n < 10 ^ suc k → AllDigits 10 acc
    → IsSpelled n acc (digits_onto (suc k) 10 false n acc)
unfolding IsSpelled
onto-by k n acc true e small all = rw e (
  omega arith,
  ((glyph-is (n % 10) (omega arith)).1, all),
  ap (λ m. digits_value_after 10 m acc) (omega (arith, (glyph-is (n % 10) (omega arith)).0, eqb-true _ 0 e)),
)
onto-by zero n acc false e small all = absurd (eqb-false _ 0 e (omega (arith, small)))
onto-by (suc k) n acc false e small all =
    let more = onto-by k (n / 10) (digit_glyph false (n % 10) ∷ acc) (n / 10 / 10 == 0) refl
    (omega (arith, small, pow-suc 10 (suc k))) ((glyph-is (n % 10) (omega arith)).1, all) in
    rw e (
      more.0,
      more.1,
      more.2 ∙ ap (λ m. digits_value_after 10 m acc) (omega (arith, (glyph-is (n % 10) (omega arith)).0)),
    )

pub spelled : (k n : ℕ) → n < 10 ^ suc k
    → (0 < length (digits_onto (suc k) 10 false n [])) × AllDigits 10 (digits_onto (suc k) 10 false n [])
    × (digits_value 10 (digits_onto (suc k) 10 false n []) ≡ n)
unfolding IsSpelled
spelled k n small = onto-by k n [] (n / 10 == 0) refl small tt

enough : (n : ℕ) → n < 10 ^ suc n
enough zero = omega arith
enough (suc n) = omega (arith, enough n, pow-suc 10 (suc n))

-- the digits are the same for any number of them that is enough
same-by : (j k n : ℕ) (acc : List ℕ) (last : Bool) → n / 10 == 0 ≡ last → n < 10 ^ suc j → n < 10 ^ suc k
    → digits_onto (suc j) 10 false n acc ≡ digits_onto (suc k) 10 false n acc
same-by j k n acc true e a b = rw e refl
same-by zero k n acc false e a b = absurd (eqb-false _ 0 e (omega (arith, a)))
same-by (suc j) zero n acc false e a b = absurd (eqb-false _ 0 e (omega (arith, b)))
same-by (suc j) (suc k) n acc false e a b =
    rw e (same-by j k (n / 10) (digit_glyph false (n % 10) ∷ acc) (n / 10 / 10 == 0) refl
    (omega (arith, a, pow-suc 10 (suc j))) (omega (arith, b, pow-suc 10 (suc k))))

decimal-all : (n : ℕ) → n < 10 ^ 64 → decimal n ≡ digits_onto (suc n) 10 false n []
unfolding digits
decimal-all n small = same-by 63 n n [] (n / 10 == 0) refl small (enough n)

pub decimal-whole : (n : ℕ) → n < 10 ^ 64 → decimal n ≡ whole_text (pos n)
decimal-whole n small = decimal-all n small

pub signed-whole : (n : ℤ) → nat_abs n < 10 ^ 64 → signed_decimal n ≡ whole_text n
signed-whole (pos n) small = decimal-all n small
signed-whole (negsuc n) small = ap (λ l. 45 ∷ l) (decimal-all (suc n) small)

-- ---- reading back

first : List ℕ → ℕ
first bytes = get_or bytes 0 0

-- what comes after a number doesn't begin with a digit
pub Stops : List ℕ → Type 0
Stops rest = (c : ℕ) (cs : List ℕ) → rest ≡ c ∷ cs → digit_value c < 10 → ⊥

pub stops-at : (c : ℕ) (cs : List ℕ) → (digit_value c < 10 → ⊥) → Stops (c ∷ cs)
unfolding Stops first
stops-at c cs other d ds e is = other (subst (λ k. digit_value k < 10) (sym (ap first e)) is)

digits-split : (ds es r s : List ℕ) → AllDigits 10 ds → AllDigits 10 es → Stops r → Stops s → ds ++ r ≡ es ++ s
    → (ds ≡ es) × (r ≡ s)
unfolding Stops first
digits-split [] [] r s b c p q e = (refl, e)
digits-split [] (d ∷ es) r s b c p q e = absurd (p d (es ++ s) e c.0)
digits-split (d ∷ ds) [] r s b c p q e = absurd (q d (ds ++ r) (sym e) b.0)
digits-split (d ∷ ds) (f ∷ es) r s b c p q e =
    let k = digits-split ds es r s b.1 c.1 p q (ap (drop 1) e) in
    ((λ i. ap first e i ∷ k.0 i), k.1)

digit-range : (c : ℕ) → digit_value c < 10 → (48 ≤ c) × (c < 58)
digit-range c is = grind (arith, nat_tests, is)

first-digits : (ds r : List ℕ) → 0 < length ds → AllDigits 10 ds → (48 ≤ first (ds ++ r)) × (first (ds ++ r) < 58)
unfolding first
first-digits [] r some all = absurd (omega (arith, some))
first-digits (d ∷ ds) r some all = digit-range d all.0

-- the digits of a natural number
natural-first : (n : ℕ) (r : List ℕ)
    → (48 ≤ first (whole_text (pos n) ++ r)) × (first (whole_text (pos n) ++ r) < 58)
natural-first n r = let k = spelled n n (enough n) in first-digits (whole_text (pos n)) r k.0 k.1

-- a number begins with a minus or a digit
pub whole-first : (n : ℤ) (r : List ℕ)
    → (45 ≤ get_or (whole_text n ++ r) 0 0) × (get_or (whole_text n ++ r) 0 0 < 58)
unfolding first
whole-first (pos n) r = let k = natural-first n r in (omega (arith, k.0), k.1)
whole-first (negsuc n) r = (omega arith, omega arith)

natural-split : (m n : ℕ) (r s : List ℕ) → Stops r → Stops s → whole_text (pos m) ++ r ≡ whole_text (pos n) ++ s
    → (m ≡ n) × (r ≡ s)
natural-split m n r s p q e =
    let k = spelled m m (enough m) in
    let l = spelled n n (enough n) in
    let d = digits-split (whole_text (pos m)) (whole_text (pos n)) r s k.1 l.1 p q e in
    (sym k.2 ∙ ap (digits_value 10) d.0 ∙ l.2, d.1)

pub whole-split : (m n : ℤ) (r s : List ℕ) → Stops r → Stops s → whole_text m ++ r ≡ whole_text n ++ s
    → (m ≡ n) × (r ≡ s)
unfolding first
whole-split (pos m) (pos n) r s p q e = let d = natural-split m n r s p q e in (ap pos d.0, d.1)
whole-split (pos m) (negsuc n) r s p q e = absurd (omega (arith, ap first e, (natural-first m r).0))
whole-split (negsuc m) (pos n) r s p q e = absurd (omega (arith, ap first e, (natural-first n s).0))
whole-split (negsuc m) (negsuc n) r s p q e =
    let d = natural-split (suc m) (suc n) r s p q (ap (drop 1) e) in
    (ap negsuc (omega (arith, d.0)), d.1)

pub decimal-split : (m n : ℕ) (r s : List ℕ) → m < 10 ^ 64 → n < 10 ^ 64 → Stops r → Stops s
    → decimal m ++ r ≡ decimal n ++ s → (m ≡ n) × (r ≡ s)
decimal-split m n r s a b p q e =
    natural-split m n r s p q
    (sym (ap (λ l. l ++ r) (decimal-all m a)) ∙ e ∙ ap (λ l. l ++ s) (decimal-all n b))

pub signed-split : (m n : ℤ) (r s : List ℕ) → nat_abs m < 10 ^ 64 → nat_abs n < 10 ^ 64 → Stops r → Stops s
    → signed_decimal m ++ r ≡ signed_decimal n ++ s → (m ≡ n) × (r ≡ s)
signed-split m n r s a b p q e =
    whole-split m n r s p q
    (sym (ap (λ l. l ++ r) (signed-whole m a)) ∙ e ∙ ap (λ l. l ++ s) (signed-whole n b))
