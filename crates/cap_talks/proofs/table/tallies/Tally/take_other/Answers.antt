use Rattle.std.proofs.Common.{arith}
use Rattle.cap_class.specs.Ipv6.{read_in}
use Rattle.cap_talks.proofs.table.tallies.Tally.take_other.Goals as goal

pub count_plain-requires-clause-unread : goal.count_plain-requires-clause-unread
unfolding read_in
count_plain-requires-clause-unread c = grind arith
