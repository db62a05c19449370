use Rattle.std.proofs.Common.{rules}
use Rattle.cap_tool.proofs.hints.hint.Goals as goal

pub returns-in_default-outcome : goal.returns-in_default-outcome
returns-in_default-outcome g c = search rules
