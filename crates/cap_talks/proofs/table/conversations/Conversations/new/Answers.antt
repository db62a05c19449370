use Rattle.std.proofs.Common.{ap}
use Rattle.cap_talks.specs.inner.table.Packed.{unpacked_talks}
use Rattle.cap_talks.specs.table.Conversations.{rows_of}
use Rattle.cap_talks.proofs.table.conversations.Conversations.new.Goals as goal

pub returns-clause-stands : goal.returns-clause-stands
unfolding rows_of
returns-clause-stands c = record { rows = ap (unpacked_talks _) c.new.ensures.empty }
