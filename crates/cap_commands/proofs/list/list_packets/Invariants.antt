use Rattle.cap_commands.proofs.Listing.{Listing}
use Rattle.cap_commands.specs.ClassText.{packet_line_by}
use Rattle.cap_commands.proofs.list.list_packets.Given as goal

-- the lines of the packets that were given are written, and those of the others are to be
abbrev pub invariant-loop-feed : goal.invariant-loop-feed
invariant-loop-feed g l =
    Listing (packet_line_by l.fn.options.class l.fn.options.ipv6 l.fn.options.form l.fn.options.most)
    (g.F.PacketFeed.feed l.fn.feed) (g.F.PacketFeed.feed l.feed)
    (g.W.Device.has_failed l.fn.writer) (g.W.Device.has_failed l.writer)
    (record {
      told = g.W.Sink.tells_held l.fn.writer;
      held = g.W.Sink.held l.fn.writer;
      failed = g.W.Device.has_failed l.fn.writer;
      can_fail = g.W.Device.can_fail l.fn.writer;
    })
    (record {
      told = g.W.Sink.tells_held l.writer;
      held = g.W.Sink.held l.writer;
      failed = g.W.Device.has_failed l.writer;
      can_fail = g.W.Device.can_fail l.writer;
    })
    l.number

abbrev pub decreases-loop-feed : goal.decreases-loop-feed
decreases-loop-feed g l = (g.F.PacketFeed.feed l.feed).left
