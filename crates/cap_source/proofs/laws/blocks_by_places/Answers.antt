use Rattle.cap_source.proofs.Places.{items-law, ending-law, first-law, kinds-law, numbers-law}
use Rattle.cap_source.proofs.laws.blocks_by_places.Goals as goal

pub returns-clause-items : goal.returns-clause-items
returns-clause-items c = items-law

pub returns-clause-ending : goal.returns-clause-ending
returns-clause-ending c = ending-law

pub returns-clause-first : goal.returns-clause-first
returns-clause-first c = first-law

pub returns-clause-numbers : goal.returns-clause-numbers
returns-clause-numbers c = numbers-law

pub returns-clause-kinds : goal.returns-clause-kinds
returns-clause-kinds c = kinds-law
