use Rattle.cap_write.proofs.Units.{asked-unit, own-unit}
use Rattle.cap_write.proofs.laws.asked_unit.Goals as goal

pub returns-clause-header : goal.returns-clause-header
returns-clause-header c = asked-unit

pub returns-clause-own : goal.returns-clause-own
returns-clause-own c = own-unit
