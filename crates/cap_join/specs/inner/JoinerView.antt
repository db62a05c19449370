-- What a joiner's fields say.
use Rattle.cap_join.specs.declared.joiners.Joiner.TheInside.{Inside}
use Rattle.cap_join.specs.Joiners.{JoinerState, IsSoundJoiner}
use Rattle.cap_join.specs.inner.Tables.{entries_of}

abbrev pub joiner_view : Inside → JoinerState
joiner_view j = record { groups = entries_of j.table; spares = j.spares.lengths; next = j.next; given_up = j.given_up }

abbrev pub IsSoundJoinerInside : Inside → Type 0
IsSoundJoinerInside j = IsSoundJoiner (joiner_view j)
