use Rattle.std.proofs.Common.{arith}
use Rattle.std.proofs.lemmas.Grind.{common_steps}
use Rattle.std.specs.Net.Text.{hex}
use Rattle.cap_print.proofs.lines.Line.prepend_group.Goals as goal

pub returns-clause-text : goal.returns-clause-text
unfolding hex
returns-clause-text c = grind (arith, common_steps)
