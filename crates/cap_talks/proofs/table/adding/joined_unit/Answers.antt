use Rattle.std.proofs.Common.{rules}
use Rattle.cap_talks.specs.inner.table.Adding.{datagram_unit}
use Rattle.cap_talks.proofs.table.adding.joined_unit.Goals as goal

pub returns : goal.returns
unfolding datagram_unit
returns c = search rules
