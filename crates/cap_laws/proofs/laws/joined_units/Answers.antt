use Rattle.cap_laws.proofs.JoinedUnits.{joined-units}
use Rattle.cap_laws.proofs.laws.joined_units.Goals as goal

pub returns : goal.returns
returns c = joined-units
