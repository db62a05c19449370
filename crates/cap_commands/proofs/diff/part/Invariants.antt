use Rattle.cap_commands.proofs.Divergence.{Matched}
use Rattle.cap_commands.proofs.diff.part.Given as goal

-- so many packets of the two feeds were passed, which are the same
abbrev pub invariant-loop-one : goal.invariant-loop-one
invariant-loop-one g l =
    Matched l.fn.ignored (g.F.PacketFeed.feed l.fn.first) (g.F.PacketFeed.feed l.fn.second)
    (g.F.PacketFeed.feed l.first) (g.F.PacketFeed.feed l.second) l.passed

abbrev pub decreases-loop-one : goal.decreases-loop-one
decreases-loop-one g l = (g.F.PacketFeed.feed l.first).left
