-- What a group's fields say.
use Rattle.std.specs.Prelude.{◌≤◌, length, take}
use Rattle.cap_join.specs.declared.groups.Group.TheInside.{Inside}
use Rattle.cap_join.specs.inner.Groups.{GroupState, IsSoundGroupState}
use Rattle.cap_join.specs.Holes.{HasCursor}

abbrev pub group_view : Inside → GroupState
group_view g =
    record {
      buffer = take g.part.held g.buffer.items;
      room = length g.buffer.items;
      hole = g.part.holes.first;
      total = g.total;
      header = g.header;
      frames = g.frames;
      bytes = g.bytes;
      first = g.first;
      last = g.last;
      clock = g.clock;
      place = g.place;
    }

-- It is a group of some fragments, the part of the buffer that it holds is one, and the cursor is one of its holes.
pub record IsSoundGroup (g : Inside) : Type 0 where
  pub sound : IsSoundGroupState (group_view g)
  pub held : g.part.held ≤ length g.buffer.items
  pub short : length g.buffer.items ≤ 65520
  pub cursor : HasCursor (take g.part.held g.buffer.items) g.part.held g.part.holes.first g.part.holes.cursor
