use Rattle.std.proofs.Common.{◌≡◌}
use Rattle.cap_merge.specs.inner.First.{lane_turns, first_among}
use Rattle.cap_merge.proofs.lanes.first_of_several.Given as goal

abbrev pub invariant-loop-place : goal.invariant-loop-place
invariant-loop-place l = l.first ≡ first_among (lane_turns l.lanes) l.place
