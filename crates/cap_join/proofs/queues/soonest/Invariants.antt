use Rattle.std.proofs.Common.{◌≡◌, true}
use Rattle.cap_join.specs.inner.Ages.{AreInTurn}
use Rattle.cap_join.proofs.Aging.{Leaves}
use Rattle.cap_join.proofs.queues.soonest.Given as goal

-- if the deadline so far isn't past and no group that is left is too old, none is
abbrev pub invariant-loop-key : goal.invariant-loop-key
invariant-loop-key l = Leaves l.deadline l._key-iterator l.groups.entries
    × (l.in_order ≡ true → AreInTurn l._key-iterator)
