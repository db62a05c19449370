use Rattle.cap_laws.proofs.CheckedPackets.{checked-by-places}
use Rattle.cap_laws.proofs.laws.check_counts.Goals as goal

pub returns : goal.returns
returns c = checked-by-places
