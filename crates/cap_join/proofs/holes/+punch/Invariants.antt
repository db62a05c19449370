use Rattle.std.proofs.Common.{◌-◌}
use Rattle.cap_join.proofs.holes.+punch.Given as goal

abbrev pub decreases-punch : goal.decreases-punch
decreases-punch l = l.to - l.at
