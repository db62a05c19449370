-- A packet of a run, as it comes to a joiner.
use Rattle.std.specs.Prelude.{ℕ, List, Option}
use Rattle.cap_join.specs.History.{Event}
use Rattle.cap_merge.specs.declared.merging.RunPacket.{RunPacket}
use Rattle.cap_source.specs.Feed.{Item}
use Rattle.cap_write.specs.Joined.{Complete, completed, events_after, items_of_packet}

-- the datagram that it completes at a place in the run, after some events
abbrev pub completed_by : ℕ → RunPacket → List Event → Option Complete
completed_by place run events = completed place events run.clock.now run.meta.now run.frame.now

-- the events after it
abbrev pub events_behind : ℕ → RunPacket → List Event → List Event
events_behind place run events = events_after place events run.clock.now run.meta.now run.frame.now

-- what is to be written of it
abbrev pub items_by : ℕ → RunPacket → List Event → List Item
items_by place run events = items_of_packet place events run.clock.now run.meta.now run.frame.now
