use Rattle.std.proofs.Common.{rules}
use Rattle.cap_join.proofs.queues.most_in.Goals as goal

pub loop-key-preserved : goal.loop-key-preserved
loop-key-preserved c = search rules
