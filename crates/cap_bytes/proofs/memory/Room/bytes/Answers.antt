use Rattle.std.proofs.Common.{rules}
use Rattle.cap_bytes.proofs.memory.Room.bytes.Goals as goal

pub returns : goal.returns
returns c = search rules
