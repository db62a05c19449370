use Rattle.std.proofs.Common.{rules}
use Rattle.cap_time.proofs.stamps.order.StampPartialOrd.partial_cmp.Goals as goal

pub returns : goal.returns
returns c = search rules
