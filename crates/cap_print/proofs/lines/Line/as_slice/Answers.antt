use Rattle.std.proofs.Common.{rules}
use Rattle.cap_print.proofs.lines.Line.as_slice.Goals as goal

pub returns : goal.returns
returns c = search rules
