use Rattle.std.proofs.Common.{arith}
use Rattle.cap_talks.proofs.RowOrder.{frames-after}
use Rattle.cap_talks.proofs.table.rows.take_one.Goals as goal

pub returns-then-is_next : goal.returns-then-is_next
returns-then-is_next c = grind (arith, frames-after)
