use Rattle.std.proofs.Common.{◌≡◌, length, map}
use Rattle.cap_merge.specs.Parts.{parts, LanesAgree}
use Rattle.cap_merge.proofs.Asking.{AskedUpTo}
use Rattle.cap_merge.proofs.lanes.ask_each.Given as goal

abbrev pub invariant-loop-i : goal.invariant-loop-i
invariant-loop-i g l = record {
  same_length : length l.feeds ≡ length l.lanes;
  agrees : LanesAgree l.lanes (map g.F.PacketFeed.feed l.feeds);
  asked : AskedUpTo l.i (parts l.fn.lanes (map g.F.PacketFeed.feed l.fn.feeds))
      (parts l.lanes (map g.F.PacketFeed.feed l.feeds));
}
