use Rattle.std.proofs.Common.{refl, arith, add-one, lit<}
use Rattle.cap_merge.proofs.Placing.{one_more}
use Rattle.cap_merge.proofs.lanes.new_lanes.Goals as goal

pub loop-init : goal.loop-init
loop-init c = record { made = c.new-lanes.ensures; count = rw c.new-lanes.ensures refl }

pub push-requires : goal.push-requires
push-requires c = (lit< tt, omega (arith, c.loop.invariant.count))

pub loop-preserved : goal.loop-preserved
loop-preserved c = grind (arith, add-one, one_more)

pub returns : goal.returns
returns c = grind arith
