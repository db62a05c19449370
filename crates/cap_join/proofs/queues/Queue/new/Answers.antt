use Rattle.std.proofs.Common.{arith}
use Rattle.std.specs.List.{IsDistinct}
use Rattle.cap_join.proofs.queues.Queue.new.Goals as goal

pub invariant_of-result : goal.invariant_of-result
unfolding IsDistinct
invariant_of-result c = rw (c.in_ok-unbounded.ensures, c.in_ok-unbounded-2.ensures)
    (record { timeless_room = omega arith; rest_room = omega arith; few = omega arith; unique = tt; timeless = tt })
