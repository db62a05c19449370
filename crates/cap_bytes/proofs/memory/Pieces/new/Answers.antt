use Rattle.std.proofs.Common.{rules}
use Rattle.cap_bytes.proofs.memory.Pieces.new.Goals as goal

pub returns-clause-can_fail : goal.returns-clause-can_fail
returns-clause-can_fail c = search rules
