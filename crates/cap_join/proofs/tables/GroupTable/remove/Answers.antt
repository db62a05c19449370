use Rattle.std.proofs.Common.{List, sym, subst, arith}
use Rattle.std.specs.List.{IsDistinct}
use Rattle.std.specs.Map.{keys_of}
use Rattle.cap_join.specs.History.{same_key}
use Rattle.cap_join.specs.Joiners.{Entry}
use Rattle.cap_join.specs.inner.Ages.{IsDeadline, AreInTurn, AreUpTo}
use Rattle.cap_join.proofs.Aging.{IsDeadline-remove_entry, AreInTurn-remove_entry, AreUpTo-remove_entry}
use Rattle.cap_join.proofs.Tabling.{IsDistinct-remove_entry}
use Rattle.cap_join.proofs.tables.GroupTable.remove.Goals as goal

pub invariant_of-self : goal.invariant_of-self
invariant_of-self c =
    let t = c.self.inside in
    let test = same_key c.args.key.now in
    let is = c.pop.ensures.entries in
    record {
      unique = subst (λ (l : List Entry). IsDistinct same_key (keys_of l)) (sym is)
          (IsDistinct-remove_entry test t.groups c.self.invariant.unique);
      deadline = subst (IsDeadline t.deadline) (sym is)
          (IsDeadline-remove_entry test t.deadline t.groups c.self.invariant.deadline);
      in_turn = λ o. subst AreInTurn (sym is) (AreInTurn-remove_entry test t.groups (c.self.invariant.in_turn o));
      latest = λ o. subst (AreUpTo t.latest) (sym is)
          (AreUpTo-remove_entry test t.latest t.groups (c.self.invariant.latest o));
    }

pub returns-clause-unique : goal.returns-clause-unique
returns-clause-unique c = grind (arith, IsDistinct-remove_entry, c.pop.ensures.entries, c.self.invariant.unique)
