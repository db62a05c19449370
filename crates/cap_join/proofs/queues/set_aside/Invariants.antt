use Rattle.std.proofs.Common.{◌≡◌, ◌≤◌, ◌++◌, length}
use Rattle.cap_join.specs.inner.Ages.{AreTimeless}
use Rattle.cap_join.proofs.queues.set_aside.Given as goal

-- both are what they were, one after the other
abbrev pub invariant-loop-key : goal.invariant-loop-key
invariant-loop-key l = record {
  whole : l.timeless.entries ++ l.rest.entries ≡ l.fn.timeless.entries ++ l.fn.rest.entries;
  timeless : AreTimeless l.fn.timeless.entries → AreTimeless l.timeless.entries;
  fewer : length l.rest.entries ≤ length l.fn.rest.entries;
  timeless_cap : l.timeless.cap ≡ l.fn.timeless.cap;
  rest_cap : l.rest.cap ≡ l.fn.rest.cap;
}

abbrev pub decreases-loop-key : goal.decreases-loop-key
decreases-loop-key l = length l.rest.entries
