use Rattle.std.proofs.Common.{arith}
use Rattle.cap_join.proofs.Queueing.{spare_in-both}
use Rattle.cap_join.proofs.queues.Queue.spare_bytes.Goals as goal

pub returns-clause-value : goal.returns-clause-value
returns-clause-value c =
    grind (arith, c.self.view_is, spare_in-both, c.spare_in.ensures.value, c.spare_in-2.ensures.value)
