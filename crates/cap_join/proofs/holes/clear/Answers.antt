use Rattle.std.proofs.Common.{arith, rules}
use Rattle.cap_join.proofs.holes.clear.Goals as goal

pub returns-clause-within : goal.returns-clause-within
returns-clause-within c = grind arith

pub loop-i-preserved : goal.loop-i-preserved
loop-i-preserved c = search rules
