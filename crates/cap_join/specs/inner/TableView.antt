-- What a table's fields say.
use Rattle.std.specs.Prelude.{◌≡◌, List, true}
use Rattle.std.specs.List.{IsDistinct}
use Rattle.std.specs.Map.{keys_of}
use Rattle.cap_ip.specs.declared.headers.Key.{Key}
use Rattle.cap_join.specs.declared.tables.GroupTable.TheInside.{Inside}
use Rattle.cap_join.specs.inner.Groups.{GroupState}
use Rattle.cap_join.specs.History.{same_key}
use Rattle.cap_join.specs.inner.Ages.{IsDeadline, AreInTurn, AreUpTo}

abbrev pub table_view : Inside → List (Key × GroupState)
table_view t = t.groups

-- One group at most of a key, none too old before the deadline, and those that are in order stand so, up to the latest.
pub record IsSoundTable (t : Inside) : Type 0 where
  pub unique : IsDistinct same_key (keys_of t.groups)
  pub deadline : IsDeadline t.deadline t.groups
  pub in_turn : t.in_order ≡ true → AreInTurn t.groups
  pub latest : t.in_order ≡ true → AreUpTo t.latest t.groups
