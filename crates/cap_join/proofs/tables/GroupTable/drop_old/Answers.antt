use Rattle.std.proofs.Common.{sym, subst, arith}
use Rattle.cap_join.specs.inner.Ages.{AreInTurn, AreUpTo}
use Rattle.cap_join.proofs.Aging.{live-all, AreInTurn-live, AreUpTo-live}
use Rattle.cap_join.proofs.tables.GroupTable.drop_old.Goals as goal

pub returns-then-not-is_past-clause-entries : goal.returns-then-not-is_past-clause-entries
returns-then-not-is_past-clause-entries c = grind
    (arith, live-all, c.self.invariant.deadline, c.is_past.ensures, c.if-not-is_past.true)

pub soonest-self-inside-requires : goal.soonest-self-inside-requires
soonest-self-inside-requires c = λ o. subst AreInTurn (sym c.expire.ensures.entries)
    (AreInTurn-live c.args.now c.self.inside.groups (c.self.invariant.in_turn o))

pub invariant_of-self : goal.invariant_of-self
invariant_of-self c = record {
  unique = c.expire.ensures.unique;
  deadline = c.soonest-self-inside.ensures;
  in_turn = λ o. subst AreInTurn (sym c.expire.ensures.entries)
      (AreInTurn-live c.args.now c.self.inside.groups (c.self.invariant.in_turn o));
  latest = λ o. subst (AreUpTo c.self.inside.latest) (sym c.expire.ensures.entries)
      (AreUpTo-live c.self.inside.latest c.args.now c.self.inside.groups (c.self.invariant.latest o));
}
