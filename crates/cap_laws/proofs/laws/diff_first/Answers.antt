use Rattle.cap_laws.proofs.DataPlaces.{difference-placed}
use Rattle.cap_laws.proofs.FirstDifferences.{differences-named, first-difference}
use Rattle.cap_laws.proofs.laws.diff_first.Goals as goal

pub returns-clause-said : goal.returns-clause-said
returns-clause-said c = first-difference

pub returns-clause-named : goal.returns-clause-named
returns-clause-named c = differences-named

pub returns-clause-placed : goal.returns-clause-placed
returns-clause-placed c = difference-placed
