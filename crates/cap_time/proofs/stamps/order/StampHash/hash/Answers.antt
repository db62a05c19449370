use Rattle.std.proofs.Common.{rules}
use Rattle.cap_time.proofs.stamps.order.StampHash.hash.Goals as goal

pub returns : goal.returns
returns g c = search rules
