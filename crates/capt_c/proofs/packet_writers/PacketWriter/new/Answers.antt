use Rattle.capt_c.proofs.Standing.{stands-fresh}
use Rattle.capt_c.proofs.packet_writers.PacketWriter.new.Goals as goal

pub returns-clause-stands : goal.returns-clause-stands
returns-clause-stands c = stands-fresh c.args.format _ c.in_ok-front.ensures.bytes c.fresh.ensures
