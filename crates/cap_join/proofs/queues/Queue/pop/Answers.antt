use Rattle.std.proofs.Common.{◌≡◌, ◌<◌, ◌++◌, ◌+◌, ℕ, List, length, sym, ◌∙◌, ap, subst, arith}
use Rattle.std.specs.List.{IsDistinct}
use Rattle.std.specs.Map.{keys_of, remove_entry}
use Rattle.lru.specs.LruCache.{LruCache}
use Rattle.cap_ip.specs.declared.headers.Key.{Key}
use Rattle.cap_join.specs.inner.Groups.{GroupState}
use Rattle.cap_join.specs.History.{same_key}
use Rattle.cap_join.specs.Joiners.{Entry, open_limit}
use Rattle.cap_join.proofs.Tabling.{IsDistinct-remove_entry}
use Rattle.cap_join.proofs.Queueing.{lookup-left, lookup-right, remove_entry-left, remove_entry-right, removed-few}
use Rattle.cap_join.proofs.Queueing.{timeless-removed}
use Rattle.cap_join.proofs.queues.Queue.pop.Goals as goal

pub invariant_of-self : goal.invariant_of-self
invariant_of-self c =
    let q = c.self.inside in
    let test = same_key c.args.key.now in
    let new = c.pop.new.self.entries in
    let is : new ++ q.rest.entries ≡ remove_entry test (q.timeless.entries ++ q.rest.entries) =
    ap (λ (x : LruCache Key GroupState). x.entries ++ q.rest.entries) c.pop.ensures.entries
    ∙ sym (remove_entry-left test q.timeless.entries q.rest.entries (sym c.holds.ensures ∙ c.if-holds.true)) in
    record {
      timeless_room = subst (λ (n : ℕ). open_limit + 2 < n)
          (sym (ap (λ (x : LruCache Key GroupState). x.cap) c.pop.ensures.entries)) c.self.invariant.timeless_room;
      rest_room = c.self.invariant.rest_room;
      few = omega (
        arith,
        ap (λ (l : List Entry). length l) is,
        removed-few test (q.timeless.entries ++ q.rest.entries),
        c.self.invariant.few,
      );
      unique = subst (λ (l : List Entry). IsDistinct same_key (keys_of l)) (sym is)
          (IsDistinct-remove_entry test (q.timeless.entries ++ q.rest.entries) c.self.invariant.unique);
      timeless = grind (arith, c.pop.ensures.entries, timeless-removed, c.self.invariant.timeless);
    }

pub invariant_of-self-else-holds : goal.invariant_of-self-else-holds
invariant_of-self-else-holds c =
    let q = c.self.inside in
    let test = same_key c.args.key.now in
    let new = c.pop-else-holds.new.self.entries in
    let is : q.timeless.entries ++ new ≡ remove_entry test (q.timeless.entries ++ q.rest.entries) =
    ap (λ (x : LruCache Key GroupState). q.timeless.entries ++ x.entries) c.pop-else-holds.ensures.entries
    ∙ sym (remove_entry-right test q.timeless.entries q.rest.entries (sym c.holds.ensures ∙ c.if-holds.false)) in
    record {
      timeless_room = c.self.invariant.timeless_room;
      rest_room = subst (λ (n : ℕ). open_limit + 2 < n)
          (sym (ap (λ (x : LruCache Key GroupState). x.cap) c.pop-else-holds.ensures.entries))
          c.self.invariant.rest_room;
      few = omega (
        arith,
        ap (λ (l : List Entry). length l) is,
        removed-few test (q.timeless.entries ++ q.rest.entries),
        c.self.invariant.few,
      );
      unique = subst (λ (l : List Entry). IsDistinct same_key (keys_of l)) (sym is)
          (IsDistinct-remove_entry test (q.timeless.entries ++ q.rest.entries) c.self.invariant.unique);
      timeless = c.self.invariant.timeless;
    }

pub returns-then-holds-clause-value : goal.returns-then-holds-clause-value
returns-then-holds-clause-value c =
    grind (arith, c.self.view_is, c.pop.ensures.value, c.holds.ensures, c.if-holds.true, lookup-left)

pub returns-then-holds-clause-entries : goal.returns-then-holds-clause-entries
returns-then-holds-clause-entries c =
    grind (arith, c.self.view_is, c.pop.ensures.entries, c.holds.ensures, c.if-holds.true, remove_entry-left)

pub returns-then-holds-clause-unique : goal.returns-then-holds-clause-unique
returns-then-holds-clause-unique c =
    let q = c.self.inside in
    let test = same_key c.args.key.now in
    let new = c.pop.new.self.entries in
    let is : new ++ q.rest.entries ≡ remove_entry test (q.timeless.entries ++ q.rest.entries) =
    ap (λ (x : LruCache Key GroupState). x.entries ++ q.rest.entries) c.pop.ensures.entries
    ∙ sym (remove_entry-left test q.timeless.entries q.rest.entries (sym c.holds.ensures ∙ c.if-holds.true)) in
    subst (λ (l : List Entry). IsDistinct same_key (keys_of l)) (sym is)
    (IsDistinct-remove_entry test (q.timeless.entries ++ q.rest.entries) c.self.invariant.unique)

pub returns-else-holds-clause-value : goal.returns-else-holds-clause-value
returns-else-holds-clause-value c =
    grind (arith, c.self.view_is, c.pop-else-holds.ensures.value, c.holds.ensures, c.if-holds.false, lookup-right)

pub returns-else-holds-clause-entries : goal.returns-else-holds-clause-entries
returns-else-holds-clause-entries c =
    grind (
      arith,
      c.self.view_is,
      c.pop-else-holds.ensures.entries,
      c.holds.ensures,
      c.if-holds.false,
      remove_entry-right,
    )

pub returns-else-holds-clause-unique : goal.returns-else-holds-clause-unique
returns-else-holds-clause-unique c =
    let q = c.self.inside in
    let test = same_key c.args.key.now in
    let new = c.pop-else-holds.new.self.entries in
    let is : q.timeless.entries ++ new ≡ remove_entry test (q.timeless.entries ++ q.rest.entries) =
    ap (λ (x : LruCache Key GroupState). q.timeless.entries ++ x.entries) c.pop-else-holds.ensures.entries
    ∙ sym (remove_entry-right test q.timeless.entries q.rest.entries (sym c.holds.ensures ∙ c.if-holds.false)) in
    subst (λ (l : List Entry). IsDistinct same_key (keys_of l)) (sym is)
    (IsDistinct-remove_entry test (q.timeless.entries ++ q.rest.entries) c.self.invariant.unique)
