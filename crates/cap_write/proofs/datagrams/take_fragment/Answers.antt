use Rattle.std.proofs.Common.{ℕ, List, ◌∷◌, ◌+◌, length, false, sym, ap, ◌∙◌, subst}
use Rattle.cap_class.specs.Taken.{events_of, stamped_of}
use Rattle.cap_join.specs.Fragments.{piece_of}
use Rattle.cap_join.specs.History.{Event, joined_pieces, open_groups_after}
use Rattle.cap_join.specs.Joiners.{JoinerStandsFor, open_limit}
use Rattle.cap_join.specs.declared.datagrams.Stamped.{Stamped}
use Rattle.cap_write.proofs.Completed.{filled-all, filled-kept, joined-put}
use Rattle.cap_class.specs.Runs.{taken_of}
use Rattle.cap_write.proofs.LeavingOut.{OnOk-of, has-room, moves-few-at, taken-joined-at, taken-kept-at}
use Rattle.cap_write.proofs.Lengths.{joined-short}
use Rattle.cap_write.specs.inner.Datagrams.{IsFilled}
use Rattle.cap_write.specs.inner.LeftCounts.{StandsForTaken}
use Rattle.cap_write.specs.Joined.{complete_of, joined_of}
use Rattle.cap_write.proofs.datagrams.take_fragment.Goals as goal

pub fill_complete-requires : goal.fill_complete-requires
fill_complete-requires c =
    let events = c.requires.stands.0 in
    let stands = c.requires.stands.1 in
    let lent = c.as_slice-data.ensures.value in
    let short = joined-short c.args.header.now c.args.bytes.now c.stamped_of-stamped.result c.args.run.clock.now events
    c.args.joining.now.joiner c.in-Ok-Joined.field-0 c.in-Ok-Joined.datagram c.requires.formed c.requires.fragment
    c.requires.whole stands c.in-Ok-Joined.field-0-is (c.in-Ok-Joined.ensures.answer events stands) in
    record { short = rw lent short }

pub returns-in-Ok-Kept-clause-filled : goal.returns-in-Ok-Kept-clause-filled
returns-in-Ok-Kept-clause-filled c = λ events stands.
    let clock = c.args.run.clock.now in
    let pieces = λ (s : Stamped). joined_pieces clock (piece_of c.args.header.now c.args.bytes.now s)
    (open_groups_after open_limit events) in
    subst (λ (s : Stamped). IsFilled (joined_of (pieces s)) false c.args.joining.now.packet.items)
    c.stamped_of-stamped.ensures
    (filled-kept c.in-Ok-Kept.field-0 (pieces c.stamped_of-stamped.result) c.args.joining.now.packet.items
    c.in-Ok-Kept.field-0-is (c.in-Ok-Kept.ensures.answer events stands))

pub returns-in-Ok-Joined-clause-filled : goal.returns-in-Ok-Joined-clause-filled
returns-in-Ok-Joined-clause-filled c =
    let clock = c.args.run.clock.now in
    let pieces = λ (events : List Event) (s : Stamped). joined_pieces clock
    (piece_of c.args.header.now c.args.bytes.now s) (open_groups_after open_limit events) in
    let d = c.in-Ok-Joined.datagram in
    filled-all c.fill_complete.result
    (complete_of d.header c.as_slice-data.result.now (length c.as_slice-data.result.now))
    (λ events. joined_of (pieces events (stamped_of c.args.joining.now.place c.args.run.meta.now)))
    (λ events. JoinerStandsFor c.args.joining.now.joiner events) c.fill_complete.new.packet.items
    (λ events stands.
    ap (λ (bytes : List ℕ). complete_of d.header bytes (length bytes)) c.as_slice-data.ensures.value
    ∙ (joined-put c.in-Ok-Joined.field-0 d (pieces events c.stamped_of-stamped.result) c.in-Ok-Joined.field-0-is
    (c.in-Ok-Joined.ensures.answer events stands)
    ∙ ap (λ (s : Stamped). joined_of (pieces events s)) c.stamped_of-stamped.ensures))
    c.fill_complete.ensures.filled

pub count_class-requires : goal.count_class-requires
count_class-requires c = has-room _ c.requires.taken.0 _ _ c.requires.taken.1 c.requires.last

pub count_group-requires-clause-room : goal.count_group-requires-clause-room
count_group-requires-clause-room c = has-room _ c.requires.taken.0 _ _ c.requires.taken.1 c.requires.last

pub count_group-requires-clause-unjoined : goal.count_group-requires-clause-unjoined
count_group-requires-clause-unjoined c =
    let xs = c.requires.taken.0 in
    let h = c.requires.taken.1 in
    moves-few-at (taken_of c.args.run) xs c.args.joining.now.place c.args.joining.now.joiner c.put.new.self
    c.args.joining.now.left h (λ s. piece_of c.args.header.now c.args.bytes.now s) c.requires.classify
    c.stamped_of-stamped.result c.stamped_of-stamped.ensures c.in-Ok-Joined.field-0 c.in-Ok-Joined.datagram
    c.in-Ok-Joined.field-0-is (c.in-Ok-Joined.ensures.answer (events_of xs) h.joins)

pub returns-in-Ok-Kept-clause-taken : goal.returns-in-Ok-Kept-clause-taken
returns-in-Ok-Kept-clause-taken c = λ xs h.
    let x = taken_of c.args.run in
    subst (StandsForTaken (x ∷ xs) (c.args.joining.now.place + 1) c.put.new.self) (sym c.count_class.ensures)
    (taken-kept-at x xs c.args.joining.now.place c.args.joining.now.joiner c.put.new.self c.args.joining.now.left h
    (λ s. piece_of c.args.header.now c.args.bytes.now s) c.requires.classify c.stamped_of-stamped.result
    c.stamped_of-stamped.ensures c.in-Ok-Kept.field-0 c.in-Ok-Kept.field-0-is
    (c.in-Ok-Kept.ensures.answer (events_of xs) h.joins) (c.in-Ok-Kept.ensures.stands (events_of xs) h.joins))

pub returns-in-Ok-Joined-clause-taken : goal.returns-in-Ok-Joined-clause-taken
returns-in-Ok-Joined-clause-taken c = OnOk-of c.fill_complete.result _ (λ xs h.
    let x = taken_of c.args.run in
    subst (StandsForTaken (x ∷ xs) (c.args.joining.now.place + 1) c.put.new.self) (sym c.count_group.ensures)
    (taken-joined-at x xs c.args.joining.now.place c.args.joining.now.joiner c.put.new.self c.args.joining.now.left h
    (λ s. piece_of c.args.header.now c.args.bytes.now s) c.requires.classify c.stamped_of-stamped.result
    c.stamped_of-stamped.ensures c.in-Ok-Joined.field-0 c.in-Ok-Joined.datagram c.in-Ok-Joined.field-0-is
    (c.in-Ok-Joined.ensures.answer (events_of xs) h.joins) (c.in-Ok-Joined.ensures.stands (events_of xs) h.joins)))
