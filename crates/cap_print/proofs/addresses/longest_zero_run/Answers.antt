use Rattle.std.proofs.Common.{arith}
use Rattle.std.proofs.lemmas.Grind.{common_steps}
use Rattle.cap_print.proofs.addresses.longest_zero_run.Goals as goal

pub groups-init : goal.groups-init
groups-init c = grind (arith, common_steps)

pub groups-preserved-then-run-most : goal.groups-preserved-then-run-most
groups-preserved-then-run-most c = grind (arith, common_steps)

pub groups-preserved : goal.groups-preserved
groups-preserved c = grind (arith, common_steps)
