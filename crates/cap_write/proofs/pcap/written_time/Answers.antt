use Rattle.std.proofs.Common.{arith}
use Rattle.std.proofs.lemmas.Result.{err_from_is_err_and}
use Rattle.cap_write.proofs.Records.{HasRecord-untimed, HasRecord-mixed, HasRecord-timed}
use Rattle.cap_write.proofs.pcap.written_time.Goals as goal

pub returns-in_err-units : goal.returns-in_err-units
returns-in_err-units c = grind (arith, err_from_is_err_and, HasRecord-untimed)

pub returns-then-meta-first : goal.returns-then-meta-first
returns-then-meta-first c = grind (arith, HasRecord-mixed)

pub returns : goal.returns
returns c = grind (arith, HasRecord-timed)
