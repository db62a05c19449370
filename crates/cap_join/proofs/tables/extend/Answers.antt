use Rattle.std.proofs.Common.{◌≡◌, ◌∙◌, ◌+◌, Bool, true, false, sym, ap, subst, Some, None}
use Rattle.std.specs.Map.{remove_entry}
use Rattle.cap_ip.specs.Header.{HeaderFields}
use Rattle.cap_ip.specs.declared.headers.Key.{Key}
use Rattle.cap_join.specs.Fragments.{Piece}
use Rattle.cap_join.specs.inner.Incoming.{piece_in, place_in}
use Rattle.cap_join.specs.History.{same_key, fragment_key}
use Rattle.cap_join.specs.inner.Tables.{entry_at, has_live, PutsAt}
use Rattle.cap_join.proofs.Grouping.{piece_of-header}
use Rattle.cap_join.proofs.Putting.{there, found_after, Puts-kept, Puts-joined, IsTable-put, IsTable-removed}
use Rattle.cap_join.proofs.tables.extend.Goals as goal

pub put_at-requires : goal.put_at-requires
put_at-requires c = record {
  there = there c.key-key.result c.args.clock
      (place_in c.args.incoming.now) c.args.groups.now c.requires.table c.requires.last
      (subst (λ (k : Key). has_live k c.args.clock c.args.groups.now ≡ true) (sym c.key-key.ensures) c.requires.live);
}

pub returns-then-not-complete-clause-ok : goal.returns-then-not-complete-clause-ok
returns-then-not-complete-clause-ok c = λ os entries.
    let es = c.args.groups.now in
    let mid = c.put_at.new.self in
    let p : Piece = piece_in c.args.incoming.now in
    let key : c.key-key.result ≡ fragment_key p = c.key-key.ensures
    ∙ sym (ap (λ (h : HeaderFields). h.key)
    (piece_of-header c.args.incoming.now.header.now c.args.incoming.now.data.now c.args.incoming.now.stamped
    c.args.incoming.now.fragment c.args.incoming.now.found)) in
    Puts-kept c.args.clock p es c.requires.table.unique os entries mid c.drop_old.new.self
    (subst (λ (k : Key). has_live k c.args.clock es ≡ true) key
    (subst (λ (k : Key). has_live k c.args.clock c.args.groups.now ≡ true) (sym c.key-key.ensures) c.requires.live))
    (subst (λ (k : Key). PutsAt k p es false mid) key
    (subst (λ (b : Bool). PutsAt c.key-key.result p es b mid) c.if-not-complete.true c.in_ok-complete.ensures.ok))
    c.drop_old.ensures.entries

pub returns-then-not-complete-clause-table : goal.returns-then-not-complete-clause-table
returns-then-not-complete-clause-table c = search
    (IsTable-put, c.requires.table, c.in_ok-complete.ensures.ok, c.drop_old.ensures.entries, c.drop_old.ensures.unique)

pub unreachable-requires : goal.unreachable-requires
unreachable-requires c =
    let found = found_after c.key-key.result (piece_in c.args.incoming.now) c.args.clock c.args.groups.now
    c.put_at.new.self c.in_ok-complete.complete c.in_ok-complete.ensures.ok
    (subst (λ (k : Key). has_live k c.args.clock c.args.groups.now ≡ true)
    (sym c.key-key.ensures) c.requires.live) in
    let none : entry_at c.key-key.result c.drop_old.new.self ≡ None = sym c.in-None.ensures.value in
    clash (sym none ∙ ap (entry_at c.key-key.result) c.drop_old.ensures.entries ∙ found)
  where
    clash : {A : Type 0} {x : A} → None ≡ Some x → ⊥
    clash e = cc

pub returns-clause-ok : goal.returns-clause-ok
returns-clause-ok c = λ os entries.
    let es = c.args.groups.now in
    let mid = c.put_at.new.self in
    let late = c.drop_old.new.self in
    let p : Piece = piece_in c.args.incoming.now in
    let key : c.key-key.result ≡ fragment_key p = c.key-key.ensures
    ∙ sym (ap (λ (h : HeaderFields). h.key)
    (piece_of-header c.args.incoming.now.header.now c.args.incoming.now.data.now c.args.incoming.now.stamped
    c.args.incoming.now.fragment c.args.incoming.now.found)) in
    Puts-joined c.args.clock p es c.requires.table.unique os entries mid late c.remove.new.self c.in-Some.group
    c.finish.result
    (subst (λ (k : Key). has_live k c.args.clock es ≡ true) key
    (subst (λ (k : Key). has_live k c.args.clock c.args.groups.now ≡ true) (sym c.key-key.ensures) c.requires.live))
    (subst (λ (k : Key). PutsAt k p es true mid) key
    (subst (λ (b : Bool). PutsAt c.key-key.result p es b mid) c.if-not-complete.false c.in_ok-complete.ensures.ok))
    c.drop_old.ensures.entries c.drop_old.ensures.unique
    (subst (λ (k : Key). Some c.in-Some.group ≡ entry_at k late) key c.in-Some.ensures.value)
    (subst (λ (k : Key). c.remove.new.self ≡ remove_entry (same_key k) late) key c.remove.ensures.entries)
    c.finish.ensures.datagram

pub returns-clause-table : goal.returns-clause-table
returns-clause-table c =
    IsTable-removed (same_key c.key-key.result) ((place_in c.args.incoming.now) + 1) c.drop_old.new.self
    c.remove.new.self
    (IsTable-put c.key-key.result (piece_in c.args.incoming.now) c.args.clock
    (place_in c.args.incoming.now) c.args.groups.now c.put_at.new.self c.drop_old.new.self
    c.in_ok-complete.complete c.requires.table c.in_ok-complete.ensures.ok c.drop_old.ensures.entries
    c.drop_old.ensures.unique)
    c.remove.ensures.entries c.remove.ensures.unique
