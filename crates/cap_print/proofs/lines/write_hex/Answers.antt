use Rattle.std.proofs.Common.{rules}
use Rattle.cap_print.proofs.lines.write_hex.Goals as goal

pub returns-clause-start : goal.returns-clause-start
returns-clause-start c = search rules
