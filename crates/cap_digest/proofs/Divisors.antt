-- Greatest common divisors, and fractions in lowest terms.
use Rattle.std.proofs.Common.{◌≡◌, ◌+◌, ◌*◌, ◌/◌, ◌%◌, ◌<◌, ◌≤◌, ℕ, zero, suc, true, false, Bool, refl, sym, ap, subst}
use Rattle.std.proofs.Common.{◌∙◌, arith}
use Rattle.std.specs.Prelude.{◌==◌, ◌&&◌, if◌then◌else◌}
use Rattle.std.specs.Int.{IsGcd, ◌∣◌}
use Rattle.std.proofs.Math.Nat.{div-mul_cancel, dvd-add_iff_right, dvd-mod_iff, dvd-mul_left_of_dvd, dvd-mul_left}
use Rattle.std.proofs.Math.Nat.{dvd-mul_right, dvd_antisymm, dvd_of_mod-eq-zero, dvd_of_mul-dvd-mul_right, le_of_dvd}
use Rattle.std.proofs.Math.Nat.{mod-eq-zero_of_dvd, mul-dvd-mul_right, pos_of_dvd_of_pos, one-dvd}
use Rattle.std.proofs.lemmas.Nat.{div-add-mod', mod_below}
use Rattle.std.proofs.lemmas.Nat.Gcd.{IsGcd-from_mod, IsGcd-from_zero, same_from_IsGcd, le_from_IsGcd, IsGcd-swap}
use Rattle.std.proofs.lemmas.Bool.{eqb-true, eq-eqb, true≢false}
use Rattle.cap_digest.specs.Canonical.{greatest_divisor, common_divisor}

-- a test of two parts, and what it says
both : (p q : Bool) → (p && q) ≡ true → (p ≡ true) × (q ≡ true)
both p q h = grind arith

-- a choice by a test
chosen : (t : Bool) (m r g : ℕ) → (t ≡ true → m ≡ g) → (t ≡ false → r ≡ g) → (if t then m else r) ≡ g
chosen true m r g same other = same refl
chosen false m r g same other = other refl

-- a number divides both exactly if the test says so
tested : (m a b : ℕ) → (a % m == 0 && b % m == 0) ≡ true → (m ∣ a) × (m ∣ b)
tested m a b h =
    let parts = both (a % m == 0) (b % m == 0) h in
    (dvd_of_mod-eq-zero m (eqb-true (a % m) 0 parts.0), dvd_of_mod-eq-zero m (eqb-true (b % m) 0 parts.1))

test : (m a b : ℕ) → m ∣ a → m ∣ b → (a % m == 0 && b % m == 0) ≡ true
test m a b p q =
    ap (λ (t : Bool). t && b % m == 0) (eq-eqb (a % m) 0 (mod-eq-zero_of_dvd m p))
    ∙ eq-eqb (b % m) 0 (mod-eq-zero_of_dvd m q)

-- the greatest common divisor is found from any number on that isn't less
pub greatest-is : (n a b g : ℕ) → IsGcd a b g → 0 < b → g ≤ n → greatest_divisor n a b ≡ g
unfolding greatest_divisor
greatest-is zero a b g h some low = absurd (omega (arith, pos_of_dvd_of_pos h.1 some))
greatest-is (suc n) a b g h some low =
    let here : g ≡ suc n → (a % suc n == 0 && b % suc n == 0) ≡ true =
    λ e. test (suc n) a b (subst (λ (m : ℕ). m ∣ a) e h.0) (subst (λ (m : ℕ). m ∣ b) e h.1) in
    chosen (a % suc n == 0 && b % suc n == 0) (suc n) (greatest_divisor n a b) g
    (λ divides_both.
    let divides = tested (suc n) a b divides_both in
    let least : suc n ≤ g =
    le_from_IsGcd a b g (suc n) h (pos_of_dvd_of_pos h.1 some) divides.0 divides.1 in omega arith)
    (λ fails.
    let other : g ≡ suc n → ⊥ = λ e. true≢false (sym (here e) ∙ fails) in
    greatest-is n a b g h some (omega arith))

-- what divides two products with one factor divides the product of their greatest common divisor with it
scaled : (n a b g : ℕ) → b < n → IsGcd a b g → (d c : ℕ) → d ∣ a * c → d ∣ b * c → d ∣ g * c
scaled zero a b g low h d c p q = absurd (omega arith)
scaled (suc n) a zero g low h d c p q =
    subst (λ (x : ℕ). d ∣ x * c) (same_from_IsGcd a zero a g (IsGcd-from_zero a zero refl) h) p
scaled (suc n) a (suc b) g low h d c p q =
    let m = suc b in
    let below : a % m < m = mod_below a m (omega arith) in
    let rest : IsGcd m (a % m) g =
    (h.1, (dvd-mod_iff g h.1).1 h.0, λ k x y. h.2 k ((dvd-mod_iff k x).0 y) x) in
    let whole : a * c ≡ a / m * (m * c) + a % m * c =
    ap (λ (x : ℕ). x * c) (sym (div-add-mod' a m)) ∙ omega arith in
    scaled n m (a % m) g (omega (arith, below)) rest d c q
    ((dvd-add_iff_right d (dvd-mul_left_of_dvd d q (a / m))).1 (subst (λ (x : ℕ). d ∣ x) whole p))

-- a number that divides a product, and has no divisor in common with one factor, divides the other
pub divides-other : (a b c : ℕ) → IsGcd a b 1 → a ∣ b * c → a ∣ c
divides-other a b c h p =
    subst (λ (x : ℕ). a ∣ x) (omega arith) (scaled (suc b) a b 1 (omega arith) h a c (dvd-mul_right a c) p)

-- two numbers, divided by their greatest common divisor, have no other common divisor than 1
pub coprime : (a b g : ℕ) → IsGcd a b g → 0 < g → IsGcd (a / g) (b / g) 1
coprime a b g h some = (
  one-dvd (a / g),
  one-dvd (b / g),
  λ d p q.
      let first : d * g ∣ a = subst (λ (x : ℕ). d * g ∣ x) (div-mul_cancel g h.0) (mul-dvd-mul_right d p g) in
      let second : d * g ∣ b = subst (λ (x : ℕ). d * g ∣ x) (div-mul_cancel g h.1) (mul-dvd-mul_right d q g) in
      dvd_of_mul-dvd-mul_right d some (subst (λ (x : ℕ). d * g ∣ x) (omega arith) (h.2 (d * g) first second)),
)

-- fractions in lowest terms that are the same number have the same numerators and denominators
pub same-lowest : (p q r t : ℕ) → IsGcd p q 1 → IsGcd r t 1 → p * t ≡ r * q → (p ≡ r) × (q ≡ t)
same-lowest p q r t a b e =
    let x : p ∣ r = divides-other p q r a (subst (λ (n : ℕ). p ∣ n) (e ∙ omega arith) (dvd-mul_right p t)) in
    let y : r ∣ p = divides-other r t p b (subst (λ (n : ℕ). r ∣ n) (sym e ∙ omega arith) (dvd-mul_right r q)) in
    let z : q ∣ t = divides-other q p t (IsGcd-swap p q 1 a) (subst (λ (n : ℕ). q ∣ n) (sym e) (dvd-mul_left q r)) in
    let w : t ∣ q = divides-other t r q (IsGcd-swap r t 1 b) (subst (λ (n : ℕ). t ∣ n) e (dvd-mul_left t p)) in
    (dvd_antisymm x y, dvd_antisymm z w)

-- every two numbers have a greatest common divisor
has-greatest : (n a b : ℕ) → b < n → (g : ℕ) × IsGcd a b g
has-greatest zero a b low = absurd (omega arith)
has-greatest (suc n) a zero low = (a, IsGcd-from_zero a zero refl)
has-greatest (suc n) a (suc b) low =
    let below : a % suc b < suc b = mod_below a (suc b) (omega arith) in
    let rest : (g : ℕ) × IsGcd (suc b) (a % suc b) g = has-greatest n (suc b) (a % suc b) (omega (arith, below)) in
    (rest.0, IsGcd-from_mod a (suc b) rest.0 rest.1)

-- so that is the greatest common divisor
pub common_divisor-is : (a b : ℕ) → 0 < b → IsGcd a b (common_divisor a b)
common_divisor-is a b some =
    let h = has-greatest (suc b) a b (omega arith) in
    subst (IsGcd a b) (sym (greatest-is b a b h.0 h.1 some (le_of_dvd some h.1.1))) h.1

pub common_divisor-positive : (a b : ℕ) → 0 < b → 0 < common_divisor a b
common_divisor-positive a b some = pos_of_dvd_of_pos (common_divisor-is a b some).1 some

-- each of the two numbers is its part in lowest terms times their greatest common divisor
pub first-part : (a b : ℕ) → 0 < b → a / common_divisor a b * common_divisor a b ≡ a
first-part a b some = div-mul_cancel (common_divisor a b) (common_divisor-is a b some).0

pub second-part : (a b : ℕ) → 0 < b → b / common_divisor a b * common_divisor a b ≡ b
second-part a b some = div-mul_cancel (common_divisor a b) (common_divisor-is a b some).1
