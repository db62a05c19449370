use Rattle.std.proofs.Common.{arith}
use Rattle.cap_bytes.proofs.Lists.{slice_range_more}
use Rattle.cap_bytes.proofs.windows.Window.pass.Goals as goal

pub returns-clause-passes : goal.returns-clause-passes
returns-clause-passes g c = grind (arith, slice_range_more)
