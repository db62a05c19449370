-- How many bytes two lists have in common at their beginning, byte by byte.
use Rattle.std.proofs.Common.{◌≡◌, ◌≢◌, ◌<◌, ℕ, ◌+◌, zero, suc, List, [], ◌∷◌, length, drop, get_or, nat_cmp, refl}
use Rattle.std.proofs.Common.{arith}
use Rattle.std.proofs.lemmas.Bool.Decides.{Decides-eqb}
use Rattle.std.proofs.lemmas.Grind.{common_steps}
use Rattle.std.specs.Ordering.{ord_min}
use Rattle.cap_commands.specs.DiffText.{first_difference}

-- both have the same byte at a place
pub alike_at : (xs ys : List ℕ) (i : ℕ) → i < length xs → i < length ys → get_or xs i 0 ≡ get_or ys i 0
    → first_difference (drop i xs) (drop i ys) ≡ first_difference (drop (suc i) xs) (drop (suc i) ys) + 1
unfolding first_difference
alike_at [] ys i p q same = absurd (omega (arith, p))
alike_at (x ∷ xs) [] i p q same = absurd (omega (arith, q))
alike_at (x ∷ xs) (y ∷ ys) zero p q same = rw ((Decides-eqb x y).1 same) refl
alike_at (x ∷ xs) (y ∷ ys) (suc i) p q same = alike_at xs ys i (omega (arith, p)) (omega (arith, q)) same

-- they have different bytes there
pub unlike_at : (xs ys : List ℕ) (i : ℕ) → i < length xs → i < length ys → get_or xs i 0 ≢ get_or ys i 0
    → first_difference (drop i xs) (drop i ys) ≡ 0
unfolding first_difference
unlike_at [] ys i p q other = absurd (omega (arith, p))
unlike_at (x ∷ xs) [] i p q other = absurd (omega (arith, q))
unlike_at (x ∷ xs) (y ∷ ys) zero p q other = grind arith
unlike_at (x ∷ xs) (y ∷ ys) (suc i) p q other = unlike_at xs ys i (omega (arith, p)) (omega (arith, q)) other

-- the shorter one ends there
pub ended_at : (xs ys : List ℕ) (i : ℕ) → i ≡ ord_min nat_cmp (length xs) (length ys)
    → first_difference (drop i xs) (drop i ys) ≡ 0
unfolding first_difference
ended_at [] ys i is = grind (arith, common_steps)
ended_at (x ∷ xs) [] i is = grind (arith, common_steps)
ended_at (x ∷ xs) (y ∷ ys) zero is = absurd (grind (arith, common_steps))
ended_at (x ∷ xs) (y ∷ ys) (suc i) is = ended_at xs ys i (grind (arith, common_steps))

-- what is below the lesser of two numbers is below both
pub below_both : (a b n : ℕ) → n < ord_min nat_cmp a b → (n < a) × (n < b)
below_both a b n p = (grind (arith, common_steps), grind (arith, common_steps))
