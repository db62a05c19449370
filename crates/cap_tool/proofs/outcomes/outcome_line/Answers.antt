use Rattle.std.proofs.Common.{rules}
use Rattle.cap_tool.proofs.outcomes.outcome_line.Goals as goal

pub returns-in-Create-clause-text : goal.returns-in-Create-clause-text
returns-in-Create-clause-text g c = search rules
