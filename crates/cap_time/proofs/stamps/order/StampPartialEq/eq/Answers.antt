use Rattle.std.proofs.Common.{rules}
use Rattle.cap_time.proofs.stamps.order.StampPartialEq.eq.Goals as goal

pub returns : goal.returns
returns c = search rules
