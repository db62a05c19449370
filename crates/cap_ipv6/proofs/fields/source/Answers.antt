use Rattle.std.proofs.Common.{arith}
use Rattle.cap_bytes.specs.Number.{number}
use Rattle.cap_ipv6.specs.Fields.{source}
use Rattle.cap_ipv6.proofs.fields.source.Goals as goal

pub returns : goal.returns
unfolding source number
returns c = grind arith
