use Rattle.std.proofs.Common.{rules}
use Rattle.cap_tool.proofs.hints.names_line.Goals as goal

pub returns : goal.returns
returns c = search rules
