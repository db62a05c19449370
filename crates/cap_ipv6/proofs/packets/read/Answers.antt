use Rattle.std.proofs.Common.{arith}
use Rattle.cap_ipv6.specs.Read.{first_place, read_of}
use Rattle.cap_ipv6.proofs.packets.read.Goals as goal

pub packet_of-requires-clause-most : goal.packet_of-requires-clause-most
packet_of-requires-clause-most c = c.follow-led.ensures.short

pub returns : goal.returns
unfolding first_place read_of
returns c = grind arith
