use Rattle.std.proofs.Common.{arith}
use Rattle.cap_merge.proofs.Bounds.{new-bounded}
use Rattle.cap_merge.proofs.Placing.{new-alike, new-is, new-agrees, new-reached, run-new}
use Rattle.cap_merge.proofs.merging.Merged.new.Goals as goal

pub invariant_of-result : goal.invariant_of-result
invariant_of-result g c = grind (arith, new-alike, new-agrees, new-reached, new-bounded)

pub returns : goal.returns
returns g c = grind (arith, new-is, run-new)
