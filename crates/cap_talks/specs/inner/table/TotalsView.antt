-- What the fields of totals say.
use Rattle.cap_talks.specs.inner.table.Totals.{TotalsState, IsSoundTotals}
use Rattle.cap_talks.specs.declared.table.totals.Totals.TheInside.{Inside}

abbrev pub totals_view : Inside → TotalsState
totals_view t = record { files = t.files.items; packets = t.packets; bytes = t.bytes; truncated = t.truncated }

abbrev pub IsSoundTotalsInside : Inside → Type 0
IsSoundTotalsInside t = IsSoundTotals (totals_view t)
