use Rattle.std.proofs.Common.{arith}
use Rattle.cap_join.proofs.Entries.{set_value-same}
use Rattle.cap_join.proofs.queues.put_in.Goals as goal

pub returns-in_err-put-in-Some-clause-err : goal.returns-in_err-put-in-Some-clause-err
returns-in_err-put-in-Some-clause-err c = grind (arith, set_value-same)
