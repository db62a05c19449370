use Rattle.std.proofs.Common.{rules}
use Rattle.cap_print.proofs.lines.Line.new.Goals as goal

pub returns-clause-text : goal.returns-clause-text
returns-clause-text c = search rules
