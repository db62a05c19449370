use Rattle.std.proofs.Common.{◌≤◌, ◌-◌, drop, length}
use Rattle.cap_source.specs.inner.FedSteps.{PushKeeps, FollowsFed, IsSoundPush, push_view}
use Rattle.cap_source.proofs.fed_captures.look_on.Given as goal

abbrev pub invariant-loop-step : goal.invariant-loop-step
invariant-loop-step l = record {
  sound : IsSoundPush (push_view l.state);
  keeps : PushKeeps (push_view l.initial.state) (push_view l.state);
  follows : FollowsFed (push_view l.initial.state) (drop l.initial.at l.bytes) (push_view l.state)
      (drop l.at l.bytes);
  further : l.initial.at ≤ l.at;
  within : l.at ≤ length l.bytes;
}

abbrev pub decreases-loop-step : goal.decreases-loop-step
decreases-loop-step l = length l.bytes - l.at
