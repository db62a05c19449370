use Rattle.std.proofs.Common.{rules}
use Rattle.cap_join.proofs.holes.copy.Goals as goal

pub loop-i-preserved : goal.loop-i-preserved
loop-i-preserved c = search rules
