use Rattle.std.proofs.Common.{arith}
use Rattle.cap_join.proofs.Queueing.{lookup-left, lookup-right, timeless-found}
use Rattle.cap_join.proofs.queues.Queue.has_live.Goals as goal

pub returns-then-holds : goal.returns-then-holds
returns-then-holds c =
    grind (
      arith,
      c.self.view_is,
      c.holds.ensures,
      c.if-holds.true,
      lookup-left,
      timeless-found,
      c.self.invariant.timeless,
    )

pub returns-in-None : goal.returns-in-None
returns-in-None c = grind (
  arith,
  c.self.view_is,
  c.holds.ensures,
  c.if-holds.false,
  lookup-right,
  c.in-None.is,
  c.in-None.ensures,
)

pub returns-in-Some : goal.returns-in-Some
returns-in-Some c = grind (
  arith,
  c.self.view_is,
  c.holds.ensures,
  c.if-holds.false,
  lookup-right,
  c.in-Some.ensures,
  c.is_too_old.ensures,
)
