use Rattle.std.proofs.Common.{arith}
use Rattle.cap_write.proofs.Numbers.{key-first}
use Rattle.cap_write.proofs.interfaces.number_in.Goals as goal

pub returns-then-is_first-clause-answer : goal.returns-then-is_first-clause-answer
returns-then-is_first-clause-answer g c = grind (arith, key-first)
