use Rattle.std.proofs.Common.{rules}
use Rattle.cap_write.proofs.datagrams.is_complete.Goals as goal

pub returns-then-captured-size : goal.returns-then-captured-size
returns-then-captured-size c = search rules
