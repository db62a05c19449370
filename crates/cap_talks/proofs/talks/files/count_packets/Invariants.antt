use Rattle.cap_talks.proofs.CountedPackets.{IsCounted}
use Rattle.cap_talks.proofs.talks.files.count_packets.Given as goal

-- the packets that were given are counted
abbrev pub invariant-loop-feed : goal.invariant-loop-feed
invariant-loop-feed g l = IsCounted (g.F.PacketFeed.feed l.fn.feed) (g.F.PacketFeed.feed l.feed) l.counts

abbrev pub decreases-loop-feed : goal.decreases-loop-feed
decreases-loop-feed g l = (g.F.PacketFeed.feed l.feed).left
