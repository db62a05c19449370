use Rattle.std.proofs.Common.{◌≡◌, Option, true, List, ◌∷◌, [], ◌++◌, sym, ◌∙◌, ap, subst}
use Rattle.std.specs.Map.{remove_entry}
use Rattle.cap_time.specs.declared.stamps.Stamp.{Stamp}
use Rattle.cap_time.specs.Clock.{earlier}
use Rattle.cap_join.specs.History.{same_key}
use Rattle.cap_join.specs.Joiners.{Entry}
use Rattle.cap_join.specs.inner.Ages.{deadline_of, latest_of, is_in_turn, IsDeadline, AreInTurn, AreUpTo}
use Rattle.cap_join.proofs.Aging.{IsDeadline-remove_entry, AreInTurn-remove_entry, AreUpTo-remove_entry}
use Rattle.cap_join.proofs.Aging.{IsDeadline-push, AreInTurn-push, AreUpTo-push}
use Rattle.cap_join.proofs.Tabling.{IsDistinct-added}
use Rattle.cap_join.proofs.tables.GroupTable.add.Goals as goal

pub invariant_of-self-2 : goal.invariant_of-self-2
invariant_of-self-2 c =
    let t = c.self.inside in
    let test = same_key c.args.key.now in
    let others = remove_entry test t.groups in
    let entry : Entry = (c.args.key.now, c.args.group) in
    let is : c.append.new.self ≡ others ++ entry ∷ [] = c.in_ok-replaced.ensures.ok in
    let soon : c.sooner-self-inside.result ≡ earlier t.deadline (deadline_of c.args.group.clock) =
    c.sooner-self-inside.ensures ∙ ap (earlier t.deadline) c.deadline-deadline.ensures in
    let last : c.latest_of-self-inside.result ≡ latest_of t.latest (deadline_of c.args.group.clock) =
    c.latest_of-self-inside.ensures ∙ ap (latest_of t.latest) c.deadline-deadline.ensures in
    record {
      unique = IsDistinct-added c.args.key.now c.args.group t.groups c.append.new.self is c.self.invariant.unique;
      deadline = subst (λ (l : List Entry). IsDeadline c.sooner-self-inside.result l) (sym is)
          (subst (λ (d : Option Stamp). IsDeadline d (others ++ entry ∷ [])) (sym soon)
          (IsDeadline-push t.deadline others entry
          (IsDeadline-remove_entry test t.deadline t.groups c.self.invariant.deadline)));
      in_turn = λ o.
          let before = c.stays_in_order-self-inside.ensures.order o in
          subst AreInTurn (sym is)
          (AreInTurn-push t.latest others entry
          (subst (λ (d : Option Stamp). is_in_turn t.latest d ≡ true) c.deadline-deadline.ensures
          (c.stays_in_order-self-inside.ensures.turn o))
          (AreUpTo-remove_entry test t.latest t.groups (c.self.invariant.latest before))
          (AreInTurn-remove_entry test t.groups (c.self.invariant.in_turn before)));
      latest = λ o.
          let before = c.stays_in_order-self-inside.ensures.order o in
          subst (λ (l : List Entry). AreUpTo c.latest_of-self-inside.result l) (sym is)
          (subst (λ (d : Option Stamp). AreUpTo d (others ++ entry ∷ [])) (sym last)
          (AreUpTo-push t.latest others entry
          (subst (λ (d : Option Stamp). is_in_turn t.latest d ≡ true) c.deadline-deadline.ensures
          (c.stays_in_order-self-inside.ensures.turn o))
          (AreUpTo-remove_entry test t.latest t.groups (c.self.invariant.latest before))));
    }

pub returns-clause-unique : goal.returns-clause-unique
returns-clause-unique c =
    IsDistinct-added c.args.key.now c.args.group c.self.inside.groups c.append.new.self c.in_ok-replaced.ensures.ok
    c.self.invariant.unique
