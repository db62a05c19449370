use Rattle.std.proofs.Common.{◌≡◌, ◌++◌, List, length, sym, ◌∙◌, ap, subst, arith}
use Rattle.std.specs.List.{IsDistinct}
use Rattle.std.specs.Map.{keys_of, remove_entry}
use Rattle.lru.specs.LruCache.{LruCache}
use Rattle.cap_ip.specs.declared.headers.Key.{Key}
use Rattle.cap_join.specs.inner.Groups.{GroupState}
use Rattle.cap_join.specs.History.{same_key}
use Rattle.cap_join.specs.Joiners.{Entry}
use Rattle.cap_join.specs.inner.Ages.{AreInTurn}
use Rattle.cap_join.specs.inner.Tables.{live_entries}
use Rattle.cap_join.proofs.Aging.{AreInTurn-remove_entry}
use Rattle.cap_join.proofs.Tabling.{IsDistinct-remove_entry, length-removed}
use Rattle.cap_join.proofs.Queueing.{unique-rest, AreInTurn-rest, expired_whole, live-whole, live-none, removed-few}
use Rattle.cap_join.proofs.queues.expire.Goals as goal

pub first_old-requires-clause-unique : goal.first_old-requires-clause-unique
first_old-requires-clause-unique c =
    unique-rest c.loop-key.timeless.entries c.loop-key.rest.entries c.loop-key.invariant.unique

pub first_old-requires-clause-in_turn : goal.first_old-requires-clause-in_turn
first_old-requires-clause-in_turn c = λ o. AreInTurn-rest c.loop-key.timeless.entries c.loop-key.rest.entries
    (c.loop-key.invariant.in_turn o)

pub set_aside-requires-in-Some-clause-unique : goal.set_aside-requires-in-Some-clause-unique
set_aside-requires-in-Some-clause-unique c =
    let key = c.in-Some.key in
    let xs = c.loop-key.timeless.entries in
    let ys = c.loop-key.rest.entries in
    let is : xs ++ c.pop.new.self.entries ≡ remove_entry (same_key key) (xs ++ ys) =
    ap (λ (x : LruCache Key GroupState). xs ++ x.entries) c.pop.ensures.entries
    ∙ expired_whole key c.args.now xs ys c.loop-key.invariant.unique c.in-Some.ensures.old in
    subst (λ (l : List Entry). IsDistinct same_key (keys_of l)) (sym is)
    (IsDistinct-remove_entry (same_key key) (xs ++ ys) c.loop-key.invariant.unique)

pub set_aside-requires-in-Some-clause-few : goal.set_aside-requires-in-Some-clause-few
set_aside-requires-in-Some-clause-few c =
    let key = c.in-Some.key in
    let xs = c.loop-key.timeless.entries in
    let ys = c.loop-key.rest.entries in
    let is : xs ++ c.pop.new.self.entries ≡ remove_entry (same_key key) (xs ++ ys) =
    ap (λ (x : LruCache Key GroupState). xs ++ x.entries) c.pop.ensures.entries
    ∙ expired_whole key c.args.now xs ys c.loop-key.invariant.unique c.in-Some.ensures.old in
    omega (arith, ap (λ (l : List Entry). length l) is, removed-few (same_key key) (xs ++ ys), c.loop-key.invariant.few)

pub loop-key-smaller : goal.loop-key-smaller
loop-key-smaller c = omega (
  arith,
  c.set_aside-in-Some.ensures.fewer,
  ap (λ (x : LruCache Key GroupState). length x.entries) c.pop.ensures.entries,
  length-removed (same_key c.in-Some.key) _ c.loop-key.rest.entries c.in-Some.ensures.old,
)

pub loop-key-preserved : goal.loop-key-preserved
loop-key-preserved c =
    let key = c.in-Some.key in
    let xs = c.loop-key.timeless.entries in
    let ys = c.loop-key.rest.entries in
    let i = c.loop-key.invariant in
    let gone = ap (λ (x : LruCache Key GroupState). xs ++ x.entries) c.pop.ensures.entries in
    let is : xs ++ c.pop.new.self.entries ≡ remove_entry (same_key key) (xs ++ ys) = gone
    ∙ expired_whole key c.args.now xs ys i.unique c.in-Some.ensures.old in
    let whole : c.set_aside-in-Some.new.timeless.entries ++ c.set_aside-in-Some.new.rest.entries
    ≡ remove_entry (same_key key) (xs ++ ys) = c.set_aside-in-Some.ensures.whole ∙ is in
    record {
      unique = subst (λ (l : List Entry). IsDistinct same_key (keys_of l)) (sym whole)
          (IsDistinct-remove_entry (same_key key) (xs ++ ys) i.unique);
      few = omega (arith, ap (λ (l : List Entry). length l) whole, removed-few (same_key key) (xs ++ ys), i.few);
      timeless = c.set_aside-in-Some.ensures.timeless i.timeless;
      in_turn = λ o. subst AreInTurn (sym whole) (AreInTurn-remove_entry (same_key key) (xs ++ ys) (i.in_turn o));
      live = ap (live_entries c.args.now) (c.set_aside-in-Some.ensures.whole ∙ gone)
          ∙ live-whole key c.args.now xs ys i.timeless c.in-Some.ensures.old ∙ i.live;
      timeless_cap = c.set_aside-in-Some.ensures.timeless_cap ∙ i.timeless_cap;
      rest_cap = c.set_aside-in-Some.ensures.rest_cap
          ∙ ap (λ (x : LruCache Key GroupState). x.cap) c.pop.ensures.entries ∙ i.rest_cap;
    }

pub returns-clause-entries : goal.returns-clause-entries
returns-clause-entries c =
    sym (live-none c.args.now c.loop-key.timeless.entries c.loop-key.rest.entries c.loop-key.invariant.timeless
    c.in_default.ensures.none) ∙ c.loop-key.invariant.live
