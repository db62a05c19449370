use Rattle.std.proofs.Common.{rules, arith}
use Rattle.cap_bytes.proofs.Lists.{length-slice_range}
use Rattle.cap_bytes.proofs.windows.Window.need_more.Goals as goal

pub returns-in-None-clause-answer : goal.returns-in-None-clause-answer
returns-in-None-clause-answer g c = search rules

pub returns-in-None-clause-asked : goal.returns-in-None-clause-asked
returns-in-None-clause-asked g c = search rules

pub returns-in-Some-clause-keeps : goal.returns-in-Some-clause-keeps
returns-in-Some-clause-keeps g c = grind (arith, length-slice_range)
