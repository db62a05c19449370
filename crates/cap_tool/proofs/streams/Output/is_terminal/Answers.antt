use Rattle.std.proofs.Common.{rules}
use Rattle.cap_tool.proofs.streams.Output.is_terminal.Goals as goal

pub returns-in-File : goal.returns-in-File
returns-in-File c = search rules
