use Rattle.std.proofs.Common.{arith}
use Rattle.cap_check.proofs.Times.{above-least}
use Rattle.cap_check.proofs.checked.take_time.Goals as goal

pub returns-in-Less-clause-first : goal.returns-in-Less-clause-first
returns-in-Less-clause-first c = grind (arith, above-least)
