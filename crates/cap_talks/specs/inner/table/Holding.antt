-- What a table holds: the lengths of its buffers and tables themselves.
use Rattle.std.specs.Prelude.{◌+◌, length, max}
use Rattle.cap_join.specs.Joiners.{most_bytes}
use Rattle.cap_merge.specs.Parts.{merged_feed}
use Rattle.cap_talks.specs.inner.table.Stepping.{TableState}
use Rattle.cap_talks.specs.inner.table.Tallies.{one_if_waiting, waiting_bytes}
use Rattle.cap_talks.specs.declared.table.tables.Held.{Held}

-- The largest window, and the most interfaces, of any file; the open groups with a joined datagram that waits, the
-- largest of these and the conversations.
abbrev pub held_of : TableState → Held
held_of t =
    record {
      window = (merged_feed t.parts).held.window;
      interfaces = (merged_feed t.parts).held.interfaces;
      groups = length t.tally.joiner.groups + one_if_waiting t.tally.waiting;
      group_bytes = max (most_bytes t.tally.joiner.groups) (waiting_bytes t.tally.waiting);
      talks = length t.tally.talks.rows;
    }
