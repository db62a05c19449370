use Rattle.std.proofs.Common.{rules}
use Rattle.cap_join.proofs.ages.sooner.Goals as goal

pub returns-then-lt : goal.returns-then-lt
returns-then-lt c = search rules
