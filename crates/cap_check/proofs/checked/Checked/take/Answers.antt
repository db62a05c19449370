use Rattle.cap_check.proofs.Times.{least-first-more}
use Rattle.cap_check.proofs.checked.Checked.take.Goals as goal

pub returns-in-Some-clause-order : goal.returns-in-Some-clause-order
returns-in-Some-clause-order c =
    rw (c.take_time-is_backward.ensures.first, c.take_time-is_backward.ensures.last)
    (least-first-more _ _ _ c.requires.order)
