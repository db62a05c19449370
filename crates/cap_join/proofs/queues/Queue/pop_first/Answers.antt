use Rattle.std.proofs.Common.{◌≡◌, ◌<◌, ◌++◌, ◌+◌, ℕ, List, length, sym, ap, subst, arith}
use Rattle.std.specs.Prelude.{remove}
use Rattle.std.specs.List.{IsDistinct}
use Rattle.std.specs.Map.{keys_of}
use Rattle.cap_join.specs.History.{same_key}
use Rattle.cap_join.specs.Joiners.{Entry, open_limit}
use Rattle.cap_join.specs.inner.Ages.{AreTimeless}
use Rattle.cap_join.proofs.Tabling.{IsDistinct-first}
use Rattle.cap_join.proofs.Queueing.{first-left, first-right, first-few, timeless-first}
use Rattle.cap_join.proofs.queues.Queue.pop_first.Goals as goal

pub invariant_of-self : goal.invariant_of-self
invariant_of-self c =
    let q = c.self.inside in
    let is : q.timeless.entries ++ c.pop_first.new.groups.entries ≡ remove (q.timeless.entries ++ q.rest.entries) 0 =
    grind (arith, first-right, c.pop_first.ensures.entries, c.is_empty.ensures, c.if-is_empty.true) in
    record {
      timeless_room = c.self.invariant.timeless_room;
      rest_room = subst (λ (n : ℕ). open_limit + 2 < n) (sym c.pop_first.ensures.cap) c.self.invariant.rest_room;
      few = omega (
        arith,
        ap (λ (l : List Entry). length l) is,
        first-few (q.timeless.entries ++ q.rest.entries),
        c.self.invariant.few,
      );
      unique = subst (λ (l : List Entry). IsDistinct same_key (keys_of l)) (sym is)
          (IsDistinct-first (q.timeless.entries ++ q.rest.entries) c.self.invariant.unique);
      timeless = c.self.invariant.timeless;
    }

pub invariant_of-self-else-is_empty : goal.invariant_of-self-else-is_empty
invariant_of-self-else-is_empty c =
    let q = c.self.inside in
    let is : c.pop_first-else-is_empty.new.groups.entries ++ q.rest.entries
    ≡ remove (q.timeless.entries ++ q.rest.entries) 0 =
    grind (arith, first-left, c.pop_first-else-is_empty.ensures.entries, c.is_empty.ensures, c.if-is_empty.false) in
    record {
      timeless_room = subst (λ (n : ℕ). open_limit + 2 < n)
          (sym c.pop_first-else-is_empty.ensures.cap) c.self.invariant.timeless_room;
      rest_room = c.self.invariant.rest_room;
      few = omega (
        arith,
        ap (λ (l : List Entry). length l) is,
        first-few (q.timeless.entries ++ q.rest.entries),
        c.self.invariant.few,
      );
      unique = subst (λ (l : List Entry). IsDistinct same_key (keys_of l)) (sym is)
          (IsDistinct-first (q.timeless.entries ++ q.rest.entries) c.self.invariant.unique);
      timeless = subst AreTimeless (sym c.pop_first-else-is_empty.ensures.entries)
          (timeless-first q.timeless.entries c.self.invariant.timeless);
    }

pub returns-then-is_empty-clause-unique : goal.returns-then-is_empty-clause-unique
returns-then-is_empty-clause-unique c =
    let q = c.self.inside in
    let is : q.timeless.entries ++ c.pop_first.new.groups.entries ≡ remove (q.timeless.entries ++ q.rest.entries) 0 =
    grind (arith, first-right, c.pop_first.ensures.entries, c.is_empty.ensures, c.if-is_empty.true) in
    subst (λ (l : List Entry). IsDistinct same_key (keys_of l)) (sym is)
    (IsDistinct-first (q.timeless.entries ++ q.rest.entries) c.self.invariant.unique)

pub returns-else-is_empty-clause-unique : goal.returns-else-is_empty-clause-unique
returns-else-is_empty-clause-unique c =
    let q = c.self.inside in
    let is : c.pop_first-else-is_empty.new.groups.entries ++ q.rest.entries
    ≡ remove (q.timeless.entries ++ q.rest.entries) 0 =
    grind (arith, first-left, c.pop_first-else-is_empty.ensures.entries, c.is_empty.ensures, c.if-is_empty.false) in
    subst (λ (l : List Entry). IsDistinct same_key (keys_of l)) (sym is)
    (IsDistinct-first (q.timeless.entries ++ q.rest.entries) c.self.invariant.unique)
