use Rattle.std.proofs.Common.{refl}
use Rattle.cap_talks.specs.counts.Counting.{counted}
use Rattle.cap_talks.proofs.counts.counts.Counts.new.Goals as goal

pub returns : goal.returns
unfolding counted
returns c = refl
