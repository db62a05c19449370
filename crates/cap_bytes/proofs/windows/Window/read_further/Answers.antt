use Rattle.cap_bytes.proofs.Lists.{length-slice_range}
use Rattle.std.proofs.Common.{arith, length-take-le}
use Rattle.std.proofs.lemmas.Grind.{common_steps}
use Rattle.cap_bytes.proofs.windows.Window.read_further.Goals as goal

pub returns-in-Whole-clause-asked : goal.returns-in-Whole-clause-asked
returns-in-Whole-clause-asked g c = grind (arith, length-slice_range, length-take-le, c.read_on.new.buffer.ok.0)

pub returns-in_err-end-clause-answer : goal.returns-in_err-end-clause-answer
returns-in_err-end-clause-answer g c = grind (arith, common_steps)

pub returns-in_err-end-clause-keeps : goal.returns-in_err-end-clause-keeps
returns-in_err-end-clause-keeps g c = grind (arith, length-slice_range)

pub read_on-requires-clause-fewer : goal.read_on-requires-clause-fewer
read_on-requires-clause-fewer g c = grind (arith, length-slice_range)

pub returns-in-Failed-clause-answer : goal.returns-in-Failed-clause-answer
returns-in-Failed-clause-answer g c = grind (arith, length-slice_range, length-take-le, c.read_on.new.buffer.ok.0)

pub returns-in-Failed-clause-asked : goal.returns-in-Failed-clause-asked
returns-in-Failed-clause-asked g c = grind (arith, length-slice_range, length-take-le, c.read_on.new.buffer.ok.0)

pub returns-in_err-end-clause-asked : goal.returns-in_err-end-clause-asked
returns-in_err-end-clause-asked g c = grind (arith, length-slice_range)

pub returns-in-Ended-clause-asked : goal.returns-in-Ended-clause-asked
returns-in-Ended-clause-asked g c = grind (arith, length-slice_range, length-take-le, c.read_on.new.buffer.ok.0)
