use Rattle.std.proofs.Common.{rules}
use Rattle.cap_tool.proofs.outcomes.put_told.Goals as goal

pub returns-in-Line-Help-clause-text : goal.returns-in-Line-Help-clause-text
returns-in-Line-Help-clause-text g c = search rules
