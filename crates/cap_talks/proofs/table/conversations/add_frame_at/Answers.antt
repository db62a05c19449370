use Rattle.std.proofs.Common.{arith}
use Rattle.cap_talks.proofs.table.conversations.add_frame_at.Goals as goal

pub returns : goal.returns
returns c = grind arith
