use Rattle.std.proofs.Common.{arith}
use Rattle.cap_bytes.specs.Number.{number}
use Rattle.cap_ipv6.specs.Fields.{destination}
use Rattle.cap_ipv6.proofs.fields.destination.Goals as goal

pub returns : goal.returns
unfolding destination number
returns c = grind arith
