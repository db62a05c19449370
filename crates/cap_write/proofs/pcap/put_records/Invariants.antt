use Rattle.cap_write.proofs.Records.{Recording}
use Rattle.cap_write.proofs.pcap.put_records.Given as goal

-- the packets that were given are written, and the others are to be
abbrev pub invariant-loop-feed : goal.invariant-loop-feed
invariant-loop-feed g l =
    Recording l.order l.first (g.F.PacketFeed.feed l.fn.feed) (g.F.PacketFeed.feed l.feed)
    (g.W.Device.has_failed l.fn.writer) (g.W.Device.has_failed l.writer)
    (record {
      told = g.W.Sink.tells_held l.fn.writer;
      held = g.W.Sink.held l.fn.writer;
      failed = g.W.Device.has_failed l.fn.writer;
      can_fail = g.W.Device.can_fail l.fn.writer;
    })
    (record {
      told = g.W.Sink.tells_held l.writer;
      held = g.W.Sink.held l.writer;
      failed = g.W.Device.has_failed l.writer;
      can_fail = g.W.Device.can_fail l.writer;
    })

abbrev pub decreases-loop-feed : goal.decreases-loop-feed
decreases-loop-feed g l = (g.F.PacketFeed.feed l.feed).left
