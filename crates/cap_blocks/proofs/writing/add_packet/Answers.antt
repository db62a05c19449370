use Rattle.std.proofs.Common.{arith, append_assoc}
use Rattle.cap_blocks.proofs.Parts.{packet_bytes-parts}
use Rattle.cap_blocks.proofs.writing.add_packet.Goals as goal

pub returns : goal.returns
returns c = grind (arith, append_assoc, packet_bytes-parts)
