use Rattle.std.proofs.Common.{rules}
use Rattle.cap_print.proofs.lines.Line.prepend_text.Goals as goal

pub returns-clause-text : goal.returns-clause-text
returns-clause-text c = search rules
