use Rattle.std.proofs.Common.{rules}
use Rattle.cap_time.proofs.stamps.order.reach.Goals as goal

pub returns-in-None : goal.returns-in-None
returns-in-None c = search rules
