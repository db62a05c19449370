use Rattle.std.proofs.Common.{arith}
use Rattle.std.proofs.Math.Seq.{take-append_seam}
use Rattle.cap_bytes.proofs.Reading.{Reads-taken, Reads-failed, ended_at_none}
use Rattle.cap_bytes.proofs.buffers.take_more.Goals as goal

pub returns-clause-reads : goal.returns-clause-reads
returns-clause-reads g c = grind (arith, Reads-taken)

pub returns-clause-front : goal.returns-clause-front
returns-clause-front g c = grind (arith, take-append_seam)

pub returns-clause-ended : goal.returns-clause-ended
returns-clause-ended g c = ended_at_none _ _ _ c.take.new.buffer c.take.result (omega arith) c.take.ensures.bytes

pub returns-clause-err : goal.returns-clause-err
returns-clause-err g c = grind (arith, Reads-failed)
