use Rattle.std.proofs.Common.{rules}
use Rattle.cap_write.proofs.joined.datagram_meta.Goals as goal

pub returns : goal.returns
returns c = search rules
