use Rattle.cap_join.proofs.ByPlaces.{agree}
use Rattle.cap_join.proofs.Once.{once, completed}
use Rattle.cap_join.proofs.laws.places_law.Goals as goal

pub returns-clause-groups : goal.returns-clause-groups
returns-clause-groups c = agree

pub returns-clause-completed : goal.returns-clause-completed
returns-clause-completed c = completed

pub returns-clause-once : goal.returns-clause-once
returns-clause-once c = once
