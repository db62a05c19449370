use Rattle.std.proofs.Common.{◌≡◌, ◌-◌, ◌≤◌, ◌<◌, length}
use Rattle.cap_join.specs.Holes.{HasHoles, Continues}
use Rattle.cap_join.proofs.holes.cover.Given as goal

-- what is left of the range is filled as all of it would be
abbrev pub invariant-loop-end : goal.invariant-loop-end
invariant-loop-end l = HasHoles l.bytes (length l.bytes) l.first × (length l.bytes ≡ length l.fn.bytes)
    × (l.at ≤ l.first) × (l.at < l.from → (l.first ≡ l.at) × (l.bytes ≡ l.fn.bytes))
    × Continues l.from l.to l.fn.bytes l.at l.bytes l.first

abbrev pub decreases-loop-end : goal.decreases-loop-end
decreases-loop-end l = l.to - l.first
