use Rattle.std.proofs.lemmas.Grind.{common_steps}
use Rattle.std.proofs.Common.{arith, rules}
use Rattle.cap_bytes.proofs.buffers.make_room.Goals as goal

pub returns-else-is_err-clause-bounded : goal.returns-else-is_err-clause-bounded
returns-else-is_err-clause-bounded c = search rules

pub returns-then-n-len-clause-front : goal.returns-then-n-len-clause-front
returns-then-n-len-clause-front c = grind (arith, common_steps)

pub returns-else-is_err-clause-front : goal.returns-else-is_err-clause-front
returns-else-is_err-clause-front c = grind (arith, common_steps)

pub returns-in_ok-resize-clause-front : goal.returns-in_ok-resize-clause-front
returns-in_ok-resize-clause-front c = grind (arith, common_steps)

pub returns-in_err-resize-clause-front : goal.returns-in_err-resize-clause-front
returns-in_err-resize-clause-front c = grind (arith, common_steps)
