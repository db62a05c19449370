-- What contracts see of a `Table`.
use Rattle.cap_merge.specs.inner.View.{parts_of}
use Rattle.cap_talks.specs.inner.table.Stepping.{TableState}
use Rattle.cap_talks.specs.declared.table.tables.Table.{Table}

-- its feeds with what is known of each, what is counted, and whether the feeds are at their end
abbrev pub table_of : {F : Type 0} {g : _} → Table F g → TableState
table_of t = record { parts = parts_of t.merged; totals = t.totals; tally = t.tally; done = t.done }
