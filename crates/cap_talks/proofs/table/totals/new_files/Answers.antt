use Rattle.std.proofs.Common.{refl, arith, add-one, lit<}
use Rattle.cap_talks.proofs.Totaling.{one-more}
use Rattle.cap_talks.proofs.table.totals.new_files.Goals as goal

pub loop-init : goal.loop-init
loop-init c = record { made = c.new-files.ensures; count = rw c.new-files.ensures refl }

pub push-requires : goal.push-requires
push-requires c = (lit< tt, omega (arith, c.loop.invariant.count))

pub loop-preserved : goal.loop-preserved
loop-preserved c = grind (arith, add-one, one-more)

pub returns : goal.returns
returns c = grind arith
