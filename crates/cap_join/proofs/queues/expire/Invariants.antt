use Rattle.std.proofs.Common.{◌≡◌, ◌≤◌, ◌++◌, ◌+◌, true, length}
use Rattle.std.specs.List.{IsDistinct}
use Rattle.std.specs.Map.{keys_of}
use Rattle.cap_join.specs.History.{same_key}
use Rattle.cap_join.specs.Joiners.{open_limit}
use Rattle.cap_join.specs.inner.Ages.{AreInTurn, AreTimeless}
use Rattle.cap_join.specs.inner.Tables.{live_entries}
use Rattle.cap_join.proofs.queues.expire.Given as goal

-- what isn't too old of the groups stays
abbrev pub invariant-loop-key : goal.invariant-loop-key
invariant-loop-key l = record {
  unique : IsDistinct same_key (keys_of (l.timeless.entries ++ l.rest.entries));
  few : length (l.timeless.entries ++ l.rest.entries) ≤ open_limit + 1;
  timeless : AreTimeless l.timeless.entries;
  in_turn : l.in_order ≡ true → AreInTurn (l.timeless.entries ++ l.rest.entries);
  live : live_entries l.now (l.timeless.entries ++ l.rest.entries)
      ≡ live_entries l.now (l.fn.timeless.entries ++ l.fn.rest.entries);
  timeless_cap : l.timeless.cap ≡ l.fn.timeless.cap;
  rest_cap : l.rest.cap ≡ l.fn.rest.cap;
}

abbrev pub decreases-loop-key : goal.decreases-loop-key
decreases-loop-key l = length l.rest.entries
