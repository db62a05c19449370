use Rattle.std.proofs.Common.{rules}
use Rattle.cap_bytes.proofs.streams.gave.Goals as goal

pub returns-in-Ok-clause-count : goal.returns-in-Ok-clause-count
returns-in-Ok-clause-count c = search rules
