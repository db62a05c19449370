use Rattle.std.proofs.Common.{◌≡◌, ◌<◌, ◌++◌, ◌+◌, ℕ, List, sym, subst, refl, arith}
use Rattle.std.specs.List.{IsDistinct}
use Rattle.std.specs.Map.{keys_of}
use Rattle.cap_ip.specs.declared.headers.Key.{Key}
use Rattle.cap_join.specs.inner.Incoming.{piece_in}
use Rattle.cap_join.specs.History.{same_key}
use Rattle.cap_join.specs.Joiners.{open_limit}
use Rattle.cap_join.proofs.Tabling.{keys_of-set_value, put_cases}
use Rattle.cap_join.proofs.Queueing.{lookup-left, lookup-right, timeless-set, PutsAt-left, PutsAt-right, keys-same}
use Rattle.cap_join.proofs.Queueing.{length-same}
use Rattle.cap_join.proofs.queues.Queue.put_at.Goals as goal

pub put_in-requires : goal.put_in-requires
put_in-requires c = record {
  there =
      grind (arith, c.self.view_is, c.requires.there, c.holds.ensures, c.if-holds.true, lookup-left);
}

pub put_in-requires-else-holds : goal.put_in-requires-else-holds
put_in-requires-else-holds c = record {
  there =
      grind (arith, c.self.view_is, c.requires.there, c.holds.ensures, c.if-holds.false, lookup-right);
}

pub invariant_of-self : goal.invariant_of-self
invariant_of-self c =
    let q = c.self.inside in
    let key = c.args.key.now in
    let p = piece_in c.args.incoming.now in
    let old = q.timeless.entries in
    let new = c.put_in.new.groups.entries in
    let ok = c.put_in.ensures.ok in
    let err = c.put_in.ensures.err in
    let same : keys_of new ≡ keys_of old = grind (arith, put_cases, keys_of-set_value) in
    let whole : keys_of (new ++ q.rest.entries) ≡ keys_of (old ++ q.rest.entries) =
    keys-same new q.rest.entries old q.rest.entries same refl in
    record {
      timeless_room = subst (λ (n : ℕ). open_limit + 2 < n) (sym c.put_in.ensures.cap) c.self.invariant.timeless_room;
      rest_room = c.self.invariant.rest_room;
      few = omega (arith, length-same (new ++ q.rest.entries) (old ++ q.rest.entries) whole, c.self.invariant.few);
      unique = subst (λ (l : List Key). IsDistinct same_key l) (sym whole) c.self.invariant.unique;
      timeless = grind (arith, put_cases, timeless-set, c.self.invariant.timeless);
    }

pub invariant_of-self-else-holds : goal.invariant_of-self-else-holds
invariant_of-self-else-holds c =
    let q = c.self.inside in
    let key = c.args.key.now in
    let p = piece_in c.args.incoming.now in
    let old = q.rest.entries in
    let new = c.put_in-else-holds.new.groups.entries in
    let ok = c.put_in-else-holds.ensures.ok in
    let err = c.put_in-else-holds.ensures.err in
    let same : keys_of new ≡ keys_of old = grind (arith, put_cases, keys_of-set_value) in
    let whole : keys_of (q.timeless.entries ++ new) ≡ keys_of (q.timeless.entries ++ old) =
    keys-same q.timeless.entries new q.timeless.entries old refl same in
    record {
      timeless_room = c.self.invariant.timeless_room;
      rest_room = subst (λ (n : ℕ). open_limit + 2 < n)
          (sym c.put_in-else-holds.ensures.cap) c.self.invariant.rest_room;
      few = omega (
        arith,
        length-same (q.timeless.entries ++ new)
            (q.timeless.entries ++ old) whole,
        c.self.invariant.few,
      );
      unique = subst (λ (l : List Key). IsDistinct same_key l) (sym whole) c.self.invariant.unique;
      timeless = c.self.invariant.timeless;
    }

pub returns-then-holds-clause-ok : goal.returns-then-holds-clause-ok
returns-then-holds-clause-ok c =
    grind (arith, c.self.view_is, c.put_in.ensures.ok, c.holds.ensures, c.if-holds.true, PutsAt-left)

pub returns-else-holds-clause-ok : goal.returns-else-holds-clause-ok
returns-else-holds-clause-ok c =
    grind (arith, c.self.view_is, c.put_in-else-holds.ensures.ok, c.holds.ensures, c.if-holds.false, PutsAt-right)
