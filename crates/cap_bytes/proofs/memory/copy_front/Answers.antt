use Rattle.std.proofs.Common.{arith}
use Rattle.std.proofs.Math.Seq.{take-append_seam}
use Rattle.std.proofs.lemmas.List.{take-append-drop, nil_from_length}
use Rattle.cap_bytes.proofs.memory.copy_front.Goals as goal

pub returns-clause-front : goal.returns-clause-front
returns-clause-front c = grind (arith, take-append_seam, take-append-drop)

pub returns-clause-none : goal.returns-clause-none
returns-clause-none c = grind (arith, nil_from_length)
