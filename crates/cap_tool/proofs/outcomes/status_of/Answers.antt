use Rattle.std.proofs.Common.{rules}
use Rattle.cap_tool.proofs.outcomes.status_of.Goals as goal

pub returns-in-Line-Line : goal.returns-in-Line-Line
returns-in-Line-Line c = search rules
