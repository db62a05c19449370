use Rattle.std.proofs.Common.{rules}
use Rattle.cap_tool.proofs.streams.Output.create.Goals as goal

pub returns-clause-file : goal.returns-clause-file
returns-clause-file g c = search rules
