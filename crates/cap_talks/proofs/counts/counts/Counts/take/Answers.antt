use Rattle.std.proofs.Common.{arith}
use Rattle.cap_talks.proofs.Counting.{counted-more}
use Rattle.cap_talks.proofs.counts.counts.Counts.take.Goals as goal

pub returns-clause-counts : goal.returns-clause-counts
returns-clause-counts c = grind (arith, counted-more)
