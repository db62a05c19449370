use Rattle.std.proofs.Common.{rules}
use Rattle.cap_line.proofs.jobs.task_of.Goals as goal

pub returns-in-join : goal.returns-in-join
returns-in-join c = search rules
