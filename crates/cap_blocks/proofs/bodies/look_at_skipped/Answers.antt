use Rattle.std.proofs.Common.{arith}
use Rattle.cap_blocks.proofs.bodies.look_at_skipped.Goals as goal

pub returns-in-Err-clause-answer : goal.returns-in-Err-clause-answer
returns-in-Err-clause-answer g c = grind arith
