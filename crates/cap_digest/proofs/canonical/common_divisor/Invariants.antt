use Rattle.std.proofs.Common.{◌<◌, ℕ}
use Rattle.std.specs.Int.{IsGcd}
use Rattle.cap_digest.proofs.canonical.common_divisor.Given as goal

-- what divides both numbers stays the same
abbrev pub invariant-steps : goal.invariant-steps
invariant-steps l = (0 < l.x) × ((g : ℕ) → IsGcd l.x l.y g → IsGcd l.fn.b l.fn.a g)

abbrev pub decreases-steps : goal.decreases-steps
decreases-steps l = l.y
