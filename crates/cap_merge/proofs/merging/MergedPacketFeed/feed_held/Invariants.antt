use Rattle.std.proofs.Common.{◌≡◌, take, map}
use Rattle.cap_merge.proofs.Firsts.{held_all}
use Rattle.cap_merge.proofs.merging.MergedPacketFeed.feed_held.Given as goal

abbrev pub invariant-loop-feed : goal.invariant-loop-feed
invariant-loop-feed g l = l.held ≡ held_all (map g.F.PacketFeed.feed (take l.feed-index l.feed-items))
