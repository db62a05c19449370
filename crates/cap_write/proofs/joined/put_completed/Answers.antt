use Rattle.std.proofs.Common.{arith, ◌≡◌, List, [], ◌∷◌, ◌∙◌, None}
use Rattle.std.proofs.lemmas.Result.{err_from_is_err_and}
use Rattle.cap_join.specs.History.{Event}
use Rattle.cap_join.specs.Joiners.{JoinerStandsFor}
use Rattle.cap_write.proofs.Completed.{Prints-no-time, items-filled, Prints-datagram, named-datagram, items-none}
use Rattle.cap_write.proofs.Completed.{Prints-none, named-none}
use Rattle.cap_write.proofs.Forming.{OnOk-map}
use Rattle.cap_source.specs.Feed.{packet}
use Rattle.cap_write.specs.inner.Forms.{form_after, form_behind, form_stop, form_state}
use Rattle.cap_write.specs.inner.RunPackets.{items_by}
use Rattle.cap_write.proofs.joined.put_completed.Goals as goal

pub returns-in_err-units_of-clause-text : goal.returns-in_err-units_of-clause-text
returns-in_err-units_of-clause-text g c = grind (arith, err_from_is_err_and, Prints-no-time)

pub returns-then-branch-clause-text : goal.returns-then-branch-clause-text
returns-then-branch-clause-text g c = λ w events stands.
    let bytes = c.take_packet.new.joining.packet.items in
    Prints-datagram c.args.order (form_state c.args.form.now) (items_by c.args.joining.now.place c.args.run events)
    c.datagram_meta-meta.result c.as_slice.result.now (g.W.Sink.held c.args.writer.now)
    (g.W.Sink.held c.put_in.new.writer) c.put_in.result
    (items-filled c.args.joining.now.place events c.args.run.clock.now c.args.run.meta.now c.args.run.frame.now _ _
    bytes c.as_slice.result.now _ c.datagram_meta-meta.result
    c.in_ok-units_of.ensures.answer c.if-branch.true (c.in_ok-take_packet.ensures.filled events stands)
    c.datagram_meta-meta.ensures (c.len.ensures ∙ c.take_packet.new.joining.packet.ok.0) c.as_slice.ensures.value)
    (c.put_in.ensures.text w)

pub returns-then-branch-clause-form : goal.returns-then-branch-clause-form
returns-then-branch-clause-form g c =
    let bytes = c.take_packet.new.joining.packet.items in
    let form = form_state c.args.form.now in
    let items = λ (events : List Event). items_by c.args.joining.now.place c.args.run events in
    OnOk-map c.put_in.result
    ((form_state c.put_in.new.form ≡ form_after form c.datagram_meta-meta.result)
    × (form_stop form (packet c.datagram_meta-meta.result c.as_slice.result.now ∷ []) ≡ None))
    ((events : List Event) → JoinerStandsFor c.args.joining.now.joiner events
    → (form_state c.put_in.new.form ≡ form_behind form (items events)) × (form_stop form (items events) ≡ None))
    (λ h events stands. named-datagram form (form_state c.put_in.new.form)
    (items events) c.datagram_meta-meta.result c.as_slice.result.now
    (items-filled c.args.joining.now.place events c.args.run.clock.now c.args.run.meta.now c.args.run.frame.now _ _
    bytes c.as_slice.result.now _ c.datagram_meta-meta.result
    c.in_ok-units_of.ensures.answer c.if-branch.true (c.in_ok-take_packet.ensures.filled events stands)
    c.datagram_meta-meta.ensures (c.len.ensures ∙ c.take_packet.new.joining.packet.ok.0) c.as_slice.ensures.value) h)
    c.put_in.ensures.form

pub returns-else-branch-clause-text : goal.returns-else-branch-clause-text
returns-else-branch-clause-text g c = λ w events stands.
    Prints-none c.args.order (form_state c.args.form.now) (items_by c.args.joining.now.place c.args.run events)
    (g.W.Sink.held c.args.writer.now)
    (items-none c.args.joining.now.place events c.args.run.clock.now c.args.run.meta.now c.args.run.frame.now _ _
    c.take_packet.new.joining.packet.items
    c.in_ok-units_of.ensures.answer c.if-branch.false (c.in_ok-take_packet.ensures.filled events stands))

pub returns-else-branch-clause-form : goal.returns-else-branch-clause-form
returns-else-branch-clause-form g c = λ events stands.
    named-none c.args.order (form_state c.args.form.now) (items_by c.args.joining.now.place c.args.run events)
    (items-none c.args.joining.now.place events c.args.run.clock.now c.args.run.meta.now c.args.run.frame.now _ _
    c.take_packet.new.joining.packet.items
    c.in_ok-units_of.ensures.answer c.if-branch.false (c.in_ok-take_packet.ensures.filled events stands))
