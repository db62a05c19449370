use Rattle.std.proofs.Common.{rules}
use Rattle.cap_talks.proofs.counts.counts.count.Goals as goal

pub returns : goal.returns
returns c = search rules
