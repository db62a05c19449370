use Rattle.std.proofs.Common.{rules}
use Rattle.cap_line.proofs.jobs.order_of.Goals as goal

pub returns-in-Some-big : goal.returns-in-Some-big
returns-in-Some-big c = search rules
