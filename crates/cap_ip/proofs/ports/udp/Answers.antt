use Rattle.std.proofs.Common.{arith}
use Rattle.cap_ip.specs.Transport.{udp_of}
use Rattle.cap_ip.proofs.ports.udp.Goals as goal

pub returns : goal.returns
unfolding udp_of
returns c = grind arith
