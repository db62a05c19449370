use Rattle.std.proofs.Common.{arith}
use Rattle.cap_join.proofs.Queueing.{most_bytes-both}
use Rattle.cap_join.proofs.queues.Queue.most_bytes.Goals as goal

pub returns-clause-value : goal.returns-clause-value
returns-clause-value c =
    grind (arith, c.self.view_is, most_bytes-both, c.most_in.ensures.value, c.most_in-2.ensures.value, c.max.ensures)
