use Rattle.std.proofs.Common.{arith}
use Rattle.cap_talks.proofs.RowOrder.{frames-after}
use Rattle.cap_talks.proofs.table.rows.take_frames.Goals as goal

pub returns-then-goes_on : goal.returns-then-goes_on
returns-then-goes_on c = grind (arith, frames-after, c.requires.one)
