use Rattle.std.proofs.Common.{rules}
use Rattle.cap_bytes.specs.Number.{number}
use Rattle.cap_bytes.proofs.numbers.u32_at.Goals as goal

pub returns-in-Little : goal.returns-in-Little
unfolding number
returns-in-Little c = search rules
