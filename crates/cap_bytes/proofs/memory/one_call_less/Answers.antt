use Rattle.std.proofs.Common.{rules}
use Rattle.cap_bytes.proofs.memory.one_call_less.Goals as goal

pub returns-in-Some : goal.returns-in-Some
returns-in-Some c = search rules
