use Rattle.std.proofs.Common.{rules}
use Rattle.cap_line.proofs.jobs.is_whole.Goals as goal

pub returns-then-is_some : goal.returns-then-is_some
returns-then-is_some c = search rules
