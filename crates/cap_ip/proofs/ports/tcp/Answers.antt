use Rattle.std.proofs.Common.{arith}
use Rattle.cap_ip.specs.Transport.{tcp_of}
use Rattle.cap_ip.proofs.ports.tcp.Goals as goal

pub returns : goal.returns
unfolding tcp_of
returns c = grind arith
