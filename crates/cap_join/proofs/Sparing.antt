-- How many bytes spare buffers have.
use Rattle.std.proofs.Common.{ℕ, suc, ◌*◌, ◌<◌, ◌≤◌, List, [], ◌∷◌, length, arith, All}
use Rattle.std.specs.Prelude.{sum}
use Rattle.std.proofs.lemmas.List.Sums.{sum_by-cons}

-- buffers that are short have few bytes
pub sum-short : (ns : List ℕ) → All (λ n. (0 < n) × (n ≤ 65520)) ns → sum ns ≤ length ns * 65520
sum-short [] h = omega arith
sum-short (n ∷ ns) h =
    let first : n ≤ 65520 = (h 0 0 (omega arith)).1 in
    let rest : sum ns ≤ length ns * 65520 = sum-short ns (λ k d p. h (suc k) d (omega arith)) in
    omega (arith, sum_by-cons (λ (x : ℕ). x) n ns)
