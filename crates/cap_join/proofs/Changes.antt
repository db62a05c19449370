-- Bytes that change within a range.
use Rattle.std.proofs.Common.{ℕ, ◌≤◌, List, arith}
use Rattle.cap_join.specs.Holes.{ChangesWithin}

-- one change after another, and a wider range
pub ChangesWithin-trans : (from to : ℕ) (a b c : List ℕ) → ChangesWithin from to a b → ChangesWithin from to b c
    → ChangesWithin from to a c
ChangesWithin-trans from to a b c p q = grind arith

pub ChangesWithin-wider : (from to lower upper : ℕ) (a b : List ℕ) → lower ≤ from → to ≤ upper
    → ChangesWithin from to a b → ChangesWithin lower upper a b
ChangesWithin-wider from to lower upper a b h k p = grind arith
