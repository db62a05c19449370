use Rattle.std.proofs.Common.{rules}
use Rattle.cap_bytes.proofs.memory.Room.new.Goals as goal

pub returns-clause-fresh : goal.returns-clause-fresh
returns-clause-fresh c = search rules
