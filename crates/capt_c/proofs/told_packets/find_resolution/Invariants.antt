use Rattle.std.proofs.Common.{◌≤◌, ◌<◌, ◌-◌, ℕ}
use Rattle.capt_c.specs.Told.{HasUnits}
use Rattle.capt_c.proofs.told_packets.find_resolution.Given as goal

-- none so far has the units
abbrev pub invariant-loop-code : goal.invariant-loop-code
invariant-loop-code l = (l.code ≤ 192) × ((k : ℕ) → k < l.code → HasUnits l.units k → ⊥)

abbrev pub decreases-loop-code : goal.decreases-loop-code
decreases-loop-code l = 192 - l.code
