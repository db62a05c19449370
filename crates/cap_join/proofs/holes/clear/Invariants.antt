use Rattle.std.proofs.Common.{◌≡◌, ℕ, ◌≤◌, ◌<◌}
use Rattle.std.specs.Prelude.{slice_index}
use Rattle.cap_join.specs.Holes.{ChangesWithin}
use Rattle.cap_join.proofs.holes.clear.Given as goal

-- what lies after the place so far stays, and what was reached is 0
abbrev pub invariant-loop-i : goal.invariant-loop-i
invariant-loop-i l = ChangesWithin l.from l.i l.fn.bytes l.bytes
    × ((k : ℕ) → l.from ≤ k → k < l.i → slice_index l.bytes k ≡ 0) × (l.to < l.i → l.i ≡ l.from)
