use Rattle.std.proofs.Common.{arith}
use Rattle.cap_merge.proofs.Finding.{first-alone}
use Rattle.cap_merge.proofs.lanes.first_lane.Goals as goal

pub returns-then-has_item-clause-place : goal.returns-then-has_item-clause-place
returns-then-has_item-clause-place c = grind (arith, first-alone)

pub returns-else-has_item-clause-place : goal.returns-else-has_item-clause-place
returns-else-has_item-clause-place c = grind (arith, first-alone)
