use Rattle.capt_c.proofs.Standing.{grows}
use Rattle.capt_c.proofs.packet_writers.PacketWriter.put.Goals as goal

pub returns-clause-grows : goal.returns-clause-grows
returns-clause-grows c = grows _ c.args.meta.now c.args.frame.now c.put_next.result _ c.put_next.ensures
