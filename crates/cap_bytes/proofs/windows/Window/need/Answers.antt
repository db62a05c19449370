use Rattle.cap_bytes.proofs.Lists.{length-slice_range}
use Rattle.std.proofs.lemmas.Grind.{common_steps}
use Rattle.std.proofs.Common.{arith}
use Rattle.cap_bytes.proofs.windows.Window.need.Goals as goal

pub returns-then-n-self-clause-answer : goal.returns-then-n-self-clause-answer
returns-then-n-self-clause-answer c = grind (arith, common_steps)

pub returns-then-n-self-clause-keeps : goal.returns-then-n-self-clause-keeps
returns-then-n-self-clause-keeps g c = grind (arith, length-slice_range)

pub need_more-requires-clause-fewer : goal.need_more-requires-clause-fewer
need_more-requires-clause-fewer g c = grind (arith, length-slice_range)

pub returns-clause-same : goal.returns-clause-same
returns-clause-same g c = grind (arith, length-slice_range)
