use Rattle.std.proofs.Common.{subst, sym}
use Rattle.cap_join.specs.inner.Ages.{IsDeadline, AreInTurn}
use Rattle.cap_join.proofs.Queueing.{AreInTurn-rest, IsDeadline-rest}
use Rattle.cap_join.proofs.queues.Queue.soonest.Goals as goal

pub soonest-requires : goal.soonest-requires
soonest-requires c = λ o. AreInTurn-rest c.self.inside.timeless.entries c.self.inside.rest.entries
    (subst AreInTurn (sym c.self.view_is) (c.requires o))

pub returns : goal.returns
returns c = subst (IsDeadline c.soonest.result) c.self.view_is
    (IsDeadline-rest c.soonest.result c.self.inside.timeless.entries c.self.inside.rest.entries
    c.self.invariant.timeless
    c.soonest.ensures)
