use Rattle.std.proofs.Common.{◌≡◌, length}
use Rattle.std.specs.Prelude.{replicate}
use Rattle.cap_merge.specs.inner.First.{fresh_lane}
use Rattle.cap_merge.proofs.lanes.new_lanes.Given as goal

abbrev pub invariant-loop : goal.invariant-loop
invariant-loop l = record {
  made : l.lanes.items ≡ replicate l.counter fresh_lane;
  count : length l.lanes.items ≡ l.counter;
}
