use Rattle.std.proofs.Common.{arith, rules}
use Rattle.cap_time.specs.inner.TimeLaws.{nat_cmp-scaled}
use Rattle.cap_time.proofs.stamps.order.fraction_cmp.Goals as goal

pub returns-then-denominator : goal.returns-then-denominator
returns-then-denominator c = grind (arith, nat_cmp-scaled)

pub returns-else-denominator : goal.returns-else-denominator
returns-else-denominator c = search rules
