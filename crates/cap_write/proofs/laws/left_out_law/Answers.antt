use Rattle.cap_write.proofs.CarriedPackets.{left-out-law}
use Rattle.cap_write.proofs.laws.left_out_law.Goals as goal

pub returns : goal.returns
returns c = left-out-law
