-- What `join` writes is what the report counts.
use Rattle.std.specs.Prelude.{◌≡◌, List, ◌∷◌, Bool, true, false, ◌&&◌, ◌==◌, length, is_some}
use Rattle.cap_talks.specs.table.CountedUnits.{unit_at}
use Rattle.cap_class.specs.Taken.{Taken, Classification, plain, datagram, fragment, classify, events_of}
use Rattle.cap_write.specs.Joined.{completed, events_after}

-- all data of a datagram was captured, as that of each fragment is
abbrev pub has_all_data : Classification → Bool
has_all_data (plain c) = false
has_all_data (datagram header captured) = length captured == header.data_length
has_all_data (fragment p) = true

-- A packet after some others of a run has a datagram written exactly if it completes a counted unit all of whose data
-- was captured; and to the groups of fragments it is the same.
pub record WritesUnit (xs : List Taken) (x : Taken) : Type 0 where
  pub written : is_some (completed (length xs) (events_of xs) x.clock x.meta x.frame)
      ≡ (has_all_data (classify (length xs) x) && is_some (unit_at xs x))
  pub events : events_after (length xs) (events_of xs) x.clock x.meta x.frame ≡ events_of (x ∷ xs)

abbrev pub JoinedUnits : Type 0
JoinedUnits = (xs : List Taken) (x : Taken) → WritesUnit xs x
