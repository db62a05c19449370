use Rattle.std.proofs.Common.{rules}
use Rattle.cap_tool.proofs.streams.create_output.Goals as goal

pub returns-in-Some-clause-stops : goal.returns-in-Some-clause-stops
returns-in-Some-clause-stops g c = search rules
