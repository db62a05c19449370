use Rattle.std.proofs.Common.{◌≡◌, ℕ, ◌≤◌, ◌<◌, ◌+◌, ◌-◌}
use Rattle.std.specs.Prelude.{slice_index}
use Rattle.cap_join.specs.Holes.{ChangesWithin}
use Rattle.cap_join.proofs.holes.copy.Given as goal

abbrev pub invariant-loop-i : goal.invariant-loop-i
invariant-loop-i l = ChangesWithin l.at (l.at + l.i) l.fn.bytes l.bytes
    × ((k : ℕ) → l.at ≤ k → k < l.at + l.i → slice_index l.bytes k ≡ slice_index l.piece (k - l.at))
