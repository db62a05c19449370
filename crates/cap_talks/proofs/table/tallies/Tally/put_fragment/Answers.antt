use Rattle.std.proofs.Common.{rules, ℕ, ◌∷◌, ap, ◌∙◌, subst, arith}
use Rattle.cap_join.specs.inner.Fitting.{FitsPut}
use Rattle.cap_join.specs.Fragments.{piece_of}
use Rattle.cap_join.specs.History.{arrives, joined_pieces, open_groups_after}
use Rattle.cap_join.specs.Joiners.{IsAnswer, open_limit}
use Rattle.cap_join.specs.Joiners as joiners
use Rattle.cap_class.specs.Runs.{taken_of}
use Rattle.cap_class.specs.Taken.{stamped_of}
use Rattle.cap_talks.specs.inner.table.Tallies.{TallyState}
use Rattle.cap_talks.specs.inner.table.TallyView.{tally_view}
use Rattle.cap_class.proofs.Moves.{kept-of, joined-of}
use Rattle.cap_talks.proofs.Exits.{sum-taken, looks-kept, sound-kept, looks-waiting, sound-waiting}
use Rattle.cap_talks.proofs.table.tallies.Tally.put_fragment.Goals as goal

pub with_frames-self-inside-requires : goal.with_frames-self-inside-requires
with_frames-self-inside-requires c = search (rules, sum-taken)

pub invariant_of-self : goal.invariant_of-self
invariant_of-self c =
    let t = tally_view c.self.inside in
    let x = taken_of c.args.packet in
    let e = c.in-Ok-Kept.ensures in
    let p = λ (place : ℕ). piece_of c.args.header c.args.bytes.now (stamped_of place c.args.packet.meta.now) in
    let own = c.stamped_of-stamped.ensures in
    sound-kept t x (ap (λ (n : TallyState). n.waiting) c.self.view_is ∙ c.requires.none) p
    c.requires.classify
    c.put.new.self
    (λ es stands. subst (λ s. joiners.JoinerStandsFor c.put.new.self
    (arrives c.args.packet.clock.now (piece_of c.args.header c.args.bytes.now s) ∷ es)) own (e.stands es stands))
    (λ es stands. kept-of _ (joined_pieces c.args.packet.clock.now (p t.place) (open_groups_after open_limit es))
    c.in-Ok-Kept.field-0-is
    (subst (λ s. IsAnswer c.in-Ok-Kept.field-0
    (joined_pieces c.args.packet.clock.now (piece_of c.args.header c.args.bytes.now s)
    (open_groups_after open_limit es))) own
    (e.answer es stands)))
    _ c.with_frames-self-inside.ensures
    c.self.invariant (omega (arith, c.requires.few, ap (λ (n : TallyState). n.place) c.self.view_is))
    (omega (arith, e.next, ap (λ s. s.place) own))

pub returns-in-Ok-Kept-clause-looks : goal.returns-in-Ok-Kept-clause-looks
returns-in-Ok-Kept-clause-looks c =
    let t = tally_view c.self.inside in
    let x = taken_of c.args.packet in
    let e = c.in-Ok-Kept.ensures in
    let p = λ (place : ℕ). piece_of c.args.header c.args.bytes.now (stamped_of place c.args.packet.meta.now) in
    let own = c.stamped_of-stamped.ensures in
    rw (← c.self.view_is)
    (looks-kept t x (ap (λ (n : TallyState). n.waiting) c.self.view_is ∙ c.requires.none) p
    c.requires.classify
    c.put.new.self
    (λ es stands. subst (λ s. joiners.JoinerStandsFor c.put.new.self
    (arrives c.args.packet.clock.now (piece_of c.args.header c.args.bytes.now s) ∷ es)) own (e.stands es stands))
    (λ es stands. kept-of _ (joined_pieces c.args.packet.clock.now (p t.place) (open_groups_after open_limit es))
    c.in-Ok-Kept.field-0-is
    (subst (λ s. IsAnswer c.in-Ok-Kept.field-0
    (joined_pieces c.args.packet.clock.now (piece_of c.args.header c.args.bytes.now s)
    (open_groups_after open_limit es))) own
    (e.answer es stands)))
    _ c.with_frames-self-inside.ensures)

pub invariant_of-self-in-Ok-Joined : goal.invariant_of-self-in-Ok-Joined
invariant_of-self-in-Ok-Joined c =
    let t = tally_view c.self.inside in
    let x = taken_of c.args.packet in
    let e = c.in-Ok-Joined.ensures in
    let p = λ (place : ℕ). piece_of c.args.header c.args.bytes.now (stamped_of place c.args.packet.meta.now) in
    let own = c.stamped_of-stamped.ensures in
    sound-waiting t x (ap (λ (n : TallyState). n.waiting) c.self.view_is ∙ c.requires.none) p
    c.requires.classify
    c.put.new.self
    (λ es stands. subst (λ s. joiners.JoinerStandsFor c.put.new.self
    (arrives c.args.packet.clock.now (piece_of c.args.header c.args.bytes.now s) ∷ es)) own (e.stands es stands))
    c.in-Ok-Joined.datagram
    (λ es stands. joined-of _ c.in-Ok-Joined.datagram
    (joined_pieces c.args.packet.clock.now (p t.place) (open_groups_after open_limit es)) c.in-Ok-Joined.field-0-is
    (subst (λ s. IsAnswer c.in-Ok-Joined.field-0
    (joined_pieces c.args.packet.clock.now (piece_of c.args.header c.args.bytes.now s)
    (open_groups_after open_limit es))) own
    (e.answer es stands)))
    c.self.invariant (omega (arith, e.next, ap (λ s. s.place) own)) (subst FitsPut c.in-Ok-Joined.field-0-is e.fits)

pub returns-in-Ok-Joined-clause-looks : goal.returns-in-Ok-Joined-clause-looks
returns-in-Ok-Joined-clause-looks c =
    let t = tally_view c.self.inside in
    let x = taken_of c.args.packet in
    let e = c.in-Ok-Joined.ensures in
    let p = λ (place : ℕ). piece_of c.args.header c.args.bytes.now (stamped_of place c.args.packet.meta.now) in
    let own = c.stamped_of-stamped.ensures in
    rw (← c.self.view_is)
    (looks-waiting t x (ap (λ (n : TallyState). n.waiting) c.self.view_is ∙ c.requires.none) p
    c.requires.classify
    c.put.new.self
    (λ es stands. subst (λ s. joiners.JoinerStandsFor c.put.new.self
    (arrives c.args.packet.clock.now (piece_of c.args.header c.args.bytes.now s) ∷ es)) own (e.stands es stands))
    c.in-Ok-Joined.datagram
    (λ es stands. joined-of _ c.in-Ok-Joined.datagram
    (joined_pieces c.args.packet.clock.now (p t.place) (open_groups_after open_limit es)) c.in-Ok-Joined.field-0-is
    (subst (λ s. IsAnswer c.in-Ok-Joined.field-0
    (joined_pieces c.args.packet.clock.now (piece_of c.args.header c.args.bytes.now s)
    (open_groups_after open_limit es))) own
    (e.answer es stands))))
