-- What the fields of the open groups say.
use Rattle.std.specs.Prelude.{List, ◌++◌, ◌+◌, ◌<◌, ◌≤◌, length}
use Rattle.std.specs.List.{IsDistinct}
use Rattle.std.specs.Map.{keys_of}
use Rattle.cap_ip.specs.declared.headers.Key.{Key}
use Rattle.cap_join.specs.declared.queues.Queue.TheInside.{Inside}
use Rattle.cap_join.specs.inner.Groups.{GroupState}
use Rattle.cap_join.specs.History.{same_key}
use Rattle.cap_join.specs.Joiners.{open_limit}
use Rattle.cap_join.specs.inner.Ages.{AreTimeless}

abbrev pub queue_view : Inside → List (Key × GroupState)
queue_view q = q.timeless.entries ++ q.rest.entries

-- One group at most of a key, one more than may be open at most, and none with a clock set aside.
pub record IsSoundQueue (q : Inside) : Type 0 where
  pub timeless_room : open_limit + 2 < q.timeless.cap
  pub rest_room : open_limit + 2 < q.rest.cap
  pub few : length (queue_view q) ≤ open_limit + 1
  pub unique : IsDistinct same_key (keys_of (queue_view q))
  pub timeless : AreTimeless q.timeless.entries
