use Rattle.std.proofs.Common.{◌≡◌, ◌<◌, ◌≤◌, ◌++◌, ◌∷◌, [], ◌+◌, ℕ, false, List, length, sym, ap, subst, arith}
use Rattle.std.specs.Prelude.{IsSome, IfSome, is_some}
use Rattle.std.specs.List.{IsDistinct}
use Rattle.std.specs.Map.{keys_of, remove_entry}
use Rattle.cap_join.specs.History.{same_key}
use Rattle.cap_join.specs.Joiners.{Entry, open_limit}
use Rattle.cap_join.specs.inner.Tables.{entry_at}
use Rattle.cap_join.proofs.Tabling.{IsDistinct-added}
use Rattle.cap_join.proofs.Queueing.{aged-rest, appended-rest, appended-few, made_cases}
use Rattle.cap_join.proofs.queues.Queue.append.Goals as goal

pub invariant_of-self : goal.invariant_of-self
invariant_of-self c =
    let q = c.self.inside in
    let key = c.args.key.now in
    let xs = q.timeless.entries in
    let ys = q.rest.entries in
    let none : is_some (entry_at key xs) ≡ false =
    aged-rest (same_key key) xs ys c.self.invariant.timeless
    (subst (λ (l : List Entry). IfSome (entry_at key l) (λ s. IsSome s.clock))
    (sym c.self.view_is) c.requires.aged) in
    let made : List Entry = remove_entry (same_key key) ys ++ (key, c.args.group) ∷ [] in
    let is : xs ++ made ≡ remove_entry (same_key key) (xs ++ ys) ++ (key, c.args.group) ∷ [] =
    appended-rest key c.args.group xs ys none in
    let short : length (xs ++ ys) ≤ open_limit = subst (λ (l : List Entry). length l ≤ open_limit)
    (sym c.self.view_is) c.requires.few in
    record {
      timeless_room = c.self.invariant.timeless_room;
      rest_room = subst (λ (n : ℕ). open_limit + 2 < n) (sym c.append.ensures.cap) c.self.invariant.rest_room;
      few = made_cases (λ l. length (xs ++ l) ≤ open_limit + 1) ys made c.append.new.groups.entries c.append.result
          c.append.ensures.ok c.append.ensures.err
          (omega (arith, ap (λ (l : List Entry). length l) is, appended-few key c.args.group (xs ++ ys)))
          c.self.invariant.few;
      unique = made_cases (λ l. IsDistinct same_key (keys_of (xs ++ l))) ys made c.append.new.groups.entries
          c.append.result c.append.ensures.ok c.append.ensures.err
          (IsDistinct-added key c.args.group (xs ++ ys) (xs ++ made) is c.self.invariant.unique)
          c.self.invariant.unique;
      timeless = c.self.invariant.timeless;
    }

pub returns-clause-ok : goal.returns-clause-ok
returns-clause-ok c =
    let q = c.self.inside in
    let key = c.args.key.now in
    let none : is_some (entry_at key q.timeless.entries) ≡ false =
    aged-rest (same_key key) q.timeless.entries q.rest.entries c.self.invariant.timeless
    (subst (λ (l : List Entry). IfSome (entry_at key l) (λ s. IsSome s.clock))
    (sym c.self.view_is) c.requires.aged) in
    grind (arith, c.self.view_is, c.append.ensures.ok, appended-rest)

pub returns-clause-unique : goal.returns-clause-unique
returns-clause-unique c =
    let q = c.self.inside in
    let key = c.args.key.now in
    let xs = q.timeless.entries in
    let ys = q.rest.entries in
    let none : is_some (entry_at key xs) ≡ false =
    aged-rest (same_key key) xs ys c.self.invariant.timeless
    (subst (λ (l : List Entry). IfSome (entry_at key l) (λ s. IsSome s.clock))
    (sym c.self.view_is) c.requires.aged) in
    let made : List Entry = remove_entry (same_key key) ys ++ (key, c.args.group) ∷ [] in
    let is : xs ++ made ≡ remove_entry (same_key key) (xs ++ ys) ++ (key, c.args.group) ∷ [] =
    appended-rest key c.args.group xs ys none in
    made_cases (λ l. IsDistinct same_key (keys_of (xs ++ l))) ys made c.append.new.groups.entries c.append.result
    c.append.ensures.ok c.append.ensures.err
    (IsDistinct-added key c.args.group (xs ++ ys) (xs ++ made) is c.self.invariant.unique) c.self.invariant.unique
