use Rattle.std.proofs.Common.{None, Some}
use Rattle.cap_class.specs.Runs.{taken_of}
use Rattle.cap_ipv6.specs.Seen.{packet_seen}
use Rattle.cap_talks.proofs.Tallying.{read-is}
use Rattle.cap_talks.proofs.table.tallies.Tally.take_read.Goals as goal

pub count_plain-requires-clause-unread : goal.count_plain-requires-clause-unread
count_plain-requires-clause-unread c =
    read-is _ (taken_of c.args.packet) None c.requires.reads c.in-None.ensures.value

pub take_ipv6-requires-clause-read : goal.take_ipv6-requires-clause-read
take_ipv6-requires-clause-read c =
    read-is _ (taken_of c.args.packet) (Some (packet_seen c.in-Some.read)) c.requires.reads c.in-Some.ensures.value
