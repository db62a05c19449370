-- The packets of a run that is merged, as they are taken.
use Rattle.std.specs.Prelude.{List, [], ◌∷◌, Option}
use Rattle.cap_class.specs.Taken.{Taken, taken}
use Rattle.cap_merge.specs.Run.{Clocked}
use Rattle.cap_merge.specs.declared.merging.RunPacket.{RunPacket}
use Rattle.cap_source.specs.Feed.{Item, packet, refused}
use Rattle.cap_time.specs.declared.stamps.Stamp.{Stamp}

-- a packet of a run that is taken
abbrev pub taken_of : RunPacket → Taken
taken_of it = taken it.clock.now it.meta.now it.frame.now

-- the packets of a run after those that were taken
abbrev pub with_item : Option Stamp → Item → List Taken → List Taken
with_item clock (packet meta frame) xs = record { clock = clock; meta = meta; frame = frame } ∷ xs
with_item clock (refused refusal) xs = xs

unfoldable pub taken_after : List Taken → List (Clocked Item) → List Taken
taken_after xs [] = xs
taken_after xs (x ∷ run) = taken_after (with_item x.clock x.item xs) run
