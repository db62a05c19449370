use Rattle.std.proofs.Common.{List, sym, subst, arith, rules}
use Rattle.std.specs.List.{IsDistinct}
use Rattle.std.specs.Map.{keys_of}
use Rattle.cap_join.specs.History.{same_key}
use Rattle.cap_join.specs.Joiners.{Entry}
use Rattle.cap_join.specs.inner.Ages.{IsDeadline, AreInTurn, AreUpTo}
use Rattle.cap_join.proofs.Aging.{IsDeadline-first, AreInTurn-first, AreUpTo-first}
use Rattle.cap_join.proofs.Tabling.{IsDistinct-first, drop-first}
use Rattle.cap_join.proofs.tables.GroupTable.make_place.Goals as goal

pub invariant_of-self : goal.invariant_of-self
invariant_of-self c =
    let t = c.self.inside in
    let is = c.pop_first.ensures.entries in
    record {
      unique = subst (λ (l : List Entry). IsDistinct same_key (keys_of l)) (sym is)
          (IsDistinct-first t.groups c.self.invariant.unique);
      deadline = subst (IsDeadline t.deadline) (sym is)
          (IsDeadline-first t.deadline t.groups c.self.invariant.deadline);
      in_turn = λ o. subst AreInTurn (sym is) (AreInTurn-first t.groups (c.self.invariant.in_turn o));
      latest = λ o. subst (AreUpTo t.latest) (sym is) (AreUpTo-first t.latest t.groups (c.self.invariant.latest o));
    }

pub returns-clause-entries : goal.returns-clause-entries
returns-clause-entries c = search rules

pub returns-clause-unique : goal.returns-clause-unique
returns-clause-unique c =
    grind (arith, drop-first, IsDistinct-first, c.pop_first.ensures.entries, c.self.invariant.unique)
