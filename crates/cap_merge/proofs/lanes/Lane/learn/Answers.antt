use Rattle.std.proofs.Common.{ap}
use Rattle.std.specs.Prelude.{is_some}
use Rattle.cap_merge.proofs.Bounds.{learns-packet}
use Rattle.cap_merge.proofs.lanes.Lane.learn.Goals as goal

-- by no name of the call that gives the time, or of the one that moves the clock
pub returns-in-Ok-true-clause-asks : goal.returns-in-Ok-true-clause-asks
returns-in-Ok-true-clause-asks g c =
    let free = ap is_some c.requires in
    let found = rw c.in-Ok-true.field-0-test at c.in-Ok-true.ensures.answer in
    search (learns-packet, free, found, c.in-Ok-true.ensures.items)
