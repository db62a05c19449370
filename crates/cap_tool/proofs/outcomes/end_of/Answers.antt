use Rattle.std.proofs.Common.{rules}
use Rattle.cap_tool.proofs.outcomes.end_of.Goals as goal

pub returns-in-Ok-clause-flushed : goal.returns-in-Ok-clause-flushed
returns-in-Ok-clause-flushed c = search rules
