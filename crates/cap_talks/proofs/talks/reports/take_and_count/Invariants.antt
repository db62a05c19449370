use Rattle.cap_merge.specs.Parts.{merged_feed}
use Rattle.cap_merge.specs.inner.View.{parts_of}
use Rattle.cap_talks.specs.inner.table.TableView.{table_of}
use Rattle.cap_talks.proofs.CountedNetworks.{CountsSoFar}
use Rattle.cap_talks.proofs.talks.reports.take_and_count.Given as goal

-- some packets were taken and counted, and the others are to come
abbrev pub invariant-loop-network : goal.invariant-loop-network
invariant-loop-network g l = CountsSoFar (table_of l.fn.table) (table_of l.table) l.counts

abbrev pub decreases-loop-network : goal.decreases-loop-network
decreases-loop-network g l = (merged_feed (parts_of l.table.merged)).left
