use Rattle.std.proofs.Common.{rules}
use Rattle.cap_bytes.proofs.streams.took.Goals as goal

pub returns-in-Ok-clause-none : goal.returns-in-Ok-clause-none
returns-in-Ok-clause-none c = search rules
