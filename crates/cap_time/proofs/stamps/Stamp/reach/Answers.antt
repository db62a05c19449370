use Rattle.std.proofs.Common.{rules}
use Rattle.cap_time.proofs.stamps.Stamp.reach.Goals as goal

pub returns-else-count_alike-clause-reached : goal.returns-else-count_alike-clause-reached
returns-else-count_alike-clause-reached c = search rules

pub returns-else-eq-clause-order : goal.returns-else-eq-clause-order
returns-else-eq-clause-order c = search rules

pub returns-else-eq-clause-reached : goal.returns-else-eq-clause-reached
returns-else-eq-clause-reached c = search rules
