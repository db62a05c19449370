use Rattle.cap_laws.proofs.JoinedByPlaces.{joined-by-places}
use Rattle.cap_laws.proofs.laws.joined_by_places.Goals as goal

pub returns : goal.returns
returns c = joined-by-places
