use Rattle.std.proofs.Common.{arith}
use Rattle.cap_time.proofs.StampForms.{stamp_cmp-alike}
use Rattle.cap_time.proofs.stamps.order.StampOrd.cmp.Goals as goal

pub returns-then-count_alike : goal.returns-then-count_alike
returns-then-count_alike c = grind (arith, stamp_cmp-alike)
