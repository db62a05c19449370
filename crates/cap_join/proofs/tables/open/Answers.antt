use Rattle.std.proofs.Common.{◌≡◌, ◌∙◌, true, false, Option, List, [], ◌∷◌, ◌++◌, refl, sym, ap, subst, arith}
use Rattle.std.specs.Prelude.{remove, if◌then◌else◌}
use Rattle.cap_ip.specs.Header.{HeaderFields}
use Rattle.cap_ip.specs.declared.headers.Key.{Key}
use Rattle.cap_join.specs.declared.datagrams.Stamped.{Stamped}
use Rattle.cap_join.specs.Fragments.{Piece}
use Rattle.cap_join.specs.inner.Incoming.{piece_in, place_in}
use Rattle.cap_join.specs.ByteMap.{completes}
use Rattle.cap_join.specs.Frames.{is_too_old}
use Rattle.cap_join.specs.inner.Groups.{IsGroupOf}
use Rattle.cap_time.specs.declared.stamps.Stamp.{Stamp}
use Rattle.cap_join.specs.History.{fragment_key}
use Rattle.cap_join.specs.Joiners.{Entry}
use Rattle.cap_join.specs.inner.Tables.{has_live, live_entries}
use Rattle.cap_join.proofs.Grouping.{piece_of-header, piece_of-stamped}
use Rattle.cap_join.proofs.Aging.{new-fresh}
use Rattle.cap_join.proofs.Tabling.{Opened, Opened-added}
use Rattle.cap_join.proofs.Putting.{Puts-alone, Puts-opened, IsTable-live, IsTable-opened}
use Rattle.cap_join.proofs.tables.open.Goals as goal

pub returns-then-is_complete-clause-ok : goal.returns-then-is_complete-clause-ok
returns-then-is_complete-clause-ok c = λ os entries.
    let es = c.args.groups.now in
    let p : Piece = piece_in c.args.incoming.now in
    let key : c.key-key.result ≡ fragment_key p = c.key-key.ensures
    ∙ sym (ap (λ (h : HeaderFields). h.key)
    (piece_of-header c.args.incoming.now.header.now c.args.incoming.now.data.now c.args.incoming.now.stamped
    c.args.incoming.now.fragment c.args.incoming.now.found)) in
    let group : IsGroupOf c.in_ok-group.group (p ∷ []) = c.in_ok-group.ensures.group in
    let done : completes (p ∷ []) ≡ true = sym (c.is_complete.ensures (p ∷ []) group) ∙ c.if-is_complete.true in
    Puts-alone c.args.clock p es c.requires.table.unique os entries c.drop_old.new.self c.finish.result
    (subst (λ (k : Key). has_live k c.args.clock es ≡ false) key
    (subst (λ (k : Key). has_live k c.args.clock c.args.groups.now ≡ false)
    (sym c.key-key.ensures) c.requires.live)) done
    (c.finish.ensures.datagram (p ∷ []) group done) c.drop_old.ensures.entries

pub returns-then-is_complete-clause-table : goal.returns-then-is_complete-clause-table
returns-then-is_complete-clause-table c = search
    (IsTable-live, c.requires.table, c.drop_old.ensures.entries, c.drop_old.ensures.unique)

pub returns-clause-ok : goal.returns-clause-ok
returns-clause-ok c = λ os entries.
    let es = c.args.groups.now in
    let p : Piece = piece_in c.args.incoming.now in
    let key : c.key-key.result ≡ fragment_key p = c.key-key.ensures
    ∙ sym (ap (λ (h : HeaderFields). h.key)
    (piece_of-header c.args.incoming.now.header.now c.args.incoming.now.data.now c.args.incoming.now.stamped
    c.args.incoming.now.fragment c.args.incoming.now.found)) in
    let group : IsGroupOf c.in_ok-group.group (p ∷ []) = c.in_ok-group.ensures.group in
    let done : completes (p ∷ []) ≡ false = sym (c.is_complete.ensures (p ∷ []) group) ∙ c.if-is_complete.false in
    let clock : c.in_ok-group.group.clock ≡ c.args.clock = c.in_ok-group.ensures.clock in
    let gave_up = c.make_place-gave_up.result in
    let o : Opened (live_entries c.args.clock es) c.make_place-gave_up.new.self c.key-key.result
    c.in_ok-group.group gave_up =
    Opened-added c.key-key.result c.in_ok-group.group c.args.clock es c.settle.new.groups c.drop_old-2.new.self
    c.make_place-gave_up.new.self gave_up (subst (λ (k : Key). has_live k c.args.clock c.args.groups.now ≡ false)
    (sym c.key-key.ensures) c.requires.live)
    (ap (λ (k : Option Stamp). is_too_old k c.args.clock) clock
    ∙ new-fresh c.args.clock) c.in_ok-settle.ensures.ok c.drop_old-2.ensures.entries c.make_place-gave_up.ensures.value
    c.make_place-gave_up.ensures.entries in
    let late : List Entry = if gave_up then remove (live_entries c.args.clock es) 0 else live_entries c.args.clock es in
    Puts-opened c.args.clock p es c.requires.table.unique os entries
    (live_entries c.args.clock es) late c.make_place-gave_up.new.self c.in_ok-group.group gave_up
    (place_in c.args.incoming.now)
    (subst (λ (k : Key). has_live k c.args.clock es ≡ false) key
    (subst (λ (k : Key). has_live k c.args.clock c.args.groups.now ≡ false) (sym c.key-key.ensures) c.requires.live))
    done c.requires.table.rises group clock
    (c.in_ok-group.ensures.place
    ∙ sym (ap (λ (s : Stamped). s.place)
    (piece_of-stamped c.args.incoming.now.header.now c.args.incoming.now.data.now c.args.incoming.now.stamped
    c.args.incoming.now.fragment c.args.incoming.now.found)))
    refl o.gave refl
    (subst (λ (k : Key). c.make_place-gave_up.new.self ≡ late ++ (k, c.in_ok-group.group) ∷ []) key o.entries)

pub returns-clause-table : goal.returns-clause-table
returns-clause-table c =
    let es = c.args.groups.now in
    let clock : c.in_ok-group.group.clock ≡ c.args.clock = c.in_ok-group.ensures.clock in
    let gave_up = c.make_place-gave_up.result in
    let o : Opened (live_entries c.args.clock es) c.make_place-gave_up.new.self c.key-key.result
    c.in_ok-group.group gave_up =
    Opened-added c.key-key.result c.in_ok-group.group c.args.clock es c.settle.new.groups c.drop_old-2.new.self
    c.make_place-gave_up.new.self gave_up (subst (λ (k : Key). has_live k c.args.clock c.args.groups.now ≡ false)
    (sym c.key-key.ensures) c.requires.live)
    (ap (λ (k : Option Stamp). is_too_old k c.args.clock) clock
    ∙ new-fresh c.args.clock) c.in_ok-settle.ensures.ok c.drop_old-2.ensures.entries c.make_place-gave_up.ensures.value
    c.make_place-gave_up.ensures.entries in
    IsTable-opened c.args.clock c.key-key.result (place_in c.args.incoming.now) c.in_ok-group.group es
    (live_entries c.args.clock es) (if gave_up then remove
    (live_entries c.args.clock es) 0 else live_entries c.args.clock es) c.make_place-gave_up.new.self gave_up
    c.requires.table refl o.gave refl o.entries
    (c.in_ok-group.ensures.place) (omega (arith, c.in_ok-group.ensures.group.frames))
    c.make_place-gave_up.ensures.unique
