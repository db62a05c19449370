use Rattle.std.proofs.Common.{ap, add-one, length, arith}
use Rattle.cap_merge.proofs.Firsts.{held-here, held-done}
use Rattle.cap_merge.proofs.merging.MergedPacketFeed.feed_held.Goals as goal

pub loop-feed-preserved : goal.loop-feed-preserved
loop-feed-preserved g c = grind (arith, add-one, held-here)

pub returns : goal.returns
returns g c =
    let m = c.args.self.now in
    let items = c.deref-feed-items.ensures.value in
    record {
      held = held-done g.F.PacketFeed.feed m.lanes.items m.feeds.items c.loop-feed.feed-index c.loop-feed.held
          m.kept.alike
          (omega (arith, ap length items)) (rw items at c.loop-feed.invariant);
    }
