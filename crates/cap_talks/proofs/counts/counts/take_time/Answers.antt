use Rattle.std.proofs.Common.{arith, rules}
use Rattle.cap_talks.proofs.Times.{past-last}
use Rattle.cap_talks.proofs.counts.counts.take_time.Goals as goal

pub returns-in-Less-clause-first : goal.returns-in-Less-clause-first
returns-in-Less-clause-first c = grind (arith, past-last)

pub returns-then-lt : goal.returns-then-lt
returns-then-lt c = search rules
