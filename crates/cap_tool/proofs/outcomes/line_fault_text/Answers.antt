use Rattle.std.proofs.Common.{rules}
use Rattle.cap_tool.proofs.outcomes.line_fault_text.Goals as goal

pub returns-in-Output : goal.returns-in-Output
returns-in-Output c = search rules
