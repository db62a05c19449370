use Rattle.std.proofs.Common.{◌-◌}
use Rattle.cap_join.proofs.holes.+append_hole.Given as goal

abbrev pub decreases-append_hole : goal.decreases-append_hole
decreases-append_hole l = l.from - l.at
