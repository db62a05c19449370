use Rattle.cap_merge.specs.Parts.{merged_feed}
use Rattle.cap_merge.specs.inner.View.{parts_of}
use Rattle.cap_talks.specs.inner.table.TableView.{table_of}
use Rattle.cap_talks.proofs.Reporting.{Reporting}
use Rattle.cap_talks.proofs.talks.reports.take_all.Given as goal

-- some packets were taken, and the others are to come
abbrev pub invariant-loop : goal.invariant-loop
invariant-loop g l = Reporting (table_of l.fn.table) (table_of l.table)

abbrev pub decreases-loop : goal.decreases-loop
decreases-loop g l = (merged_feed (parts_of l.table.merged)).left
