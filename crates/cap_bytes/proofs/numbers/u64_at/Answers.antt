use Rattle.std.proofs.Common.{rules}
use Rattle.cap_bytes.specs.Number.{number}
use Rattle.cap_bytes.proofs.numbers.u64_at.Goals as goal

pub returns-in-Big : goal.returns-in-Big
unfolding number
returns-in-Big c = search rules
