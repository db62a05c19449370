-- What the fields of a tally say.
use Rattle.cap_talks.specs.declared.table.tallies.Tally.TheInside.{Inside}
use Rattle.cap_talks.specs.inner.table.Tallies.{TallyState, IsSoundTally}

abbrev pub tally_view : Inside → TallyState
tally_view t =
    record {
      reads = t.reads_ipv6;
      place = t.place;
      classes = t.classes;
      joined = t.joined;
      talks = t.talks;
      joiner = t.joiner;
      waiting = t.waiting;
    }

abbrev pub IsSoundTallyInside : Inside → Type 0
IsSoundTallyInside t = IsSoundTally (tally_view t)
