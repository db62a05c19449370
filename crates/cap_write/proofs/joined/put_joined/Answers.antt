use Rattle.std.proofs.Common.{None, Ok, refl, ◌∙◌, arith, rules}
use Rattle.std.proofs.lemmas.Result.{err_from_is_err_and}
use Rattle.cap_merge.proofs.Shown.{gives-packet, shows-packet}
use Rattle.cap_merge.proofs.Shown as shown
use Rattle.cap_merge.specs.inner.MergedLaws.{merged-is-feed}
use Rattle.cap_merge.specs.Parts.{merged_feed}
use Rattle.cap_merge.specs.inner.View.{parts_of}
use Rattle.cap_source.specs.inner.Walk.{ShowsItem}
use Rattle.cap_write.proofs.CountingOut.{CountingOut-end, CountingOut-more, CountingOut-none}
use Rattle.cap_write.proofs.LeavingOut.{OnOk-of, taken-no-packet}
use Rattle.cap_write.proofs.Forming.{Prints-ended, Prints-stop}
use Rattle.cap_write.proofs.Joining.{Joining-more, Joining-part, feeding, shows-fault, shows-end, place-small}
use Rattle.cap_write.specs.inner.Forms.{form_state}
use Rattle.cap_write.proofs.joined.put_joined.Goals as goal

pub returns-in_err-peek-clause-text : goal.returns-in_err-peek-clause-text
returns-in_err-peek-clause-text g c = λ t w.
    let p = err_from_is_err_and c.from_residual.result c.from_residual.ensures.1 in
    let i = c.loop-joining.invariant.0 in
    let mid = parts_of c.loop-joining.merged in
    let after = parts_of c.peek.new.self in
    let law = merged-is-feed c.peek.new.self g.met.F.PacketFeed.lawful in
    let e = c.in_err-peek.ensures in
    let rest = feeding mid c.loop-joining.joining.place i.events in
    rw (p.1, p.2)
    (Prints-stop c.args.order (form_state c.loop-joining.form) c.in_err-peek.field-0.0 _ _ _ _ rest rest
    (i.walk.text t) w
    (i.walk.refusal_same t)
    (shows-fault c.in_err-peek.field-0.0 mid (merged_feed after) c.loop-joining.joining.place i.events
    (shown.shows-fault (merged_feed mid) (merged_feed after) c.in_err-peek.field-0.0 law
    (c.peek.ensures.keeps.told (i.walk.told t)) e.answer (e.items (i.walk.told t)))))

pub put_completed-requires-clause-last : goal.put_completed-requires-clause-last
put_completed-requires-clause-last g c =
    let m = c.args.merged.now in
    let law = merged-is-feed m g.met.F.PacketFeed.lawful in
    place-small c.loop-joining.joining.place (merged_feed (parts_of c.loop-joining.merged)).left
    (merged_feed (parts_of m)).left _ c.loop-joining.invariant.0.places law.most
    (omega (arith, c.files.ensures.files, c.files.ensures.most))

pub returns-in_err-put_completed-clause-text : goal.returns-in_err-put_completed-clause-text
returns-in_err-put_completed-clause-text g c = λ t w.
    let p = err_from_is_err_and c.from_residual-in_err-put_completed.result
    c.from_residual-in_err-put_completed.ensures.1 in
    let i = c.loop-joining.invariant.0 in
    let mid = parts_of c.loop-joining.merged in
    let after = parts_of c.peek.new.self in
    let law = merged-is-feed c.peek.new.self g.met.F.PacketFeed.lawful in
    let e = c.in_ok-peek.ensures in
    let n = c.next_packet in
    let told = c.peek.ensures.keeps.told (i.walk.told t) in
    let shows = shows-packet (merged_feed mid) (merged_feed after) n.result.meta.now law told n.ensures.packet
    (e.items (i.walk.told t)) in
    rw (p.1, p.2)
    (Joining-part c.args.order c.in_err-put_completed.field-0.0 (parts_of c.args.merged.now) mid after
    (form_state c.args.form.now) (form_state c.loop-joining.form) c.loop-joining.joining.joiner
    c.loop-joining.joining.place _
    _ _ _
    (g.W.Sink.held c.put_completed.new.writer)
    n.result.meta.now n.result.frame.now n.result.clock.now n.ensures.frame i t w
    shows.1 (e.run (i.walk.told t))
    (n.ensures.run told)
    (λ events stands. c.in_err-put_completed.ensures.text (i.walk.writer_told w) events stands))

pub overflow_add-joining : goal.overflow_add-joining
overflow_add-joining g c =
    let m = c.args.merged.now in
    let law = merged-is-feed m g.met.F.PacketFeed.lawful in
    let last = place-small c.loop-joining.joining.place (merged_feed (parts_of c.loop-joining.merged)).left
    (merged_feed (parts_of m)).left _ c.loop-joining.invariant.0.places law.most
    (omega (arith, c.files.ensures.files, c.files.ensures.most)) in
    grind (arith, c.in_ok-put_completed.ensures.same, last)

pub loop-joining-preserved : goal.loop-joining-preserved
loop-joining-preserved g c =
    let i = c.loop-joining.invariant.0 in
    let mid = parts_of c.loop-joining.merged in
    let after = parts_of c.peek.new.self in
    let law = merged-is-feed c.peek.new.self g.met.F.PacketFeed.lawful in
    let has = c.in_ok-peek.ensures in
    let n = c.next_packet in
    let e = c.in_ok-put_completed.ensures in
    rw e.same (
      Joining-more c.args.order (parts_of c.args.merged.now) mid after (parts_of c.pass.new.self)
          (form_state c.args.form.now) (form_state c.loop-joining.form)
          (form_state c.put_completed.new.form) c.loop-joining.joining.joiner c.put_completed.new.joining.joiner
          c.loop-joining.joining.place _ _ _ _ _ _
          n.result.meta.now n.result.frame.now n.result.clock.now n.ensures.frame i
          (gives-packet (merged_feed mid) (merged_feed after) n.result.meta.now (rw c.if-branch.true at has.answer)
          n.ensures.packet)
          has.keeps
          (λ t. shows-packet (merged_feed mid) (merged_feed after) n.result.meta.now law (has.keeps.told t)
          n.ensures.packet (has.items t))
          (λ t. has.run t)
          (λ t. n.ensures.run t) c.pass.ensures.keeps c.pass.ensures.passes (λ t. c.pass.ensures.run t)
          e.limit e.next e.stands e.form
          (λ w events stands. (e.text w events stands).1) e.writer.told e.writer.cannot (search rules),
      (
        CountingOut-more (parts_of c.args.merged.now) mid after (parts_of c.pass.new.self) c.loop-joining.joining.joiner
            c.put_completed.new.joining.joiner c.loop-joining.joining.place c.loop-joining.joining.left
            c.put_completed.new.joining.left n.result.meta.now n.result.frame.now n.result.clock.now n.ensures.frame
            c.loop-joining.invariant.1.0 (λ t. i.walk.told t) (λ t. has.keeps.told t)
            (λ t. shows-packet (merged_feed mid) (merged_feed after) n.result.meta.now law (has.keeps.told t)
            n.ensures.packet (has.items t))
            (λ t. has.run t) (λ t. n.ensures.run t) (λ t. c.pass.ensures.run t) e.taken,
        e.asked ∙ c.loop-joining.invariant.1.1,
      ),
    )

pub returns-clause-text : goal.returns-clause-text
returns-clause-text g c = λ t w.
    let i = c.loop-joining.invariant.0 in
    let mid = parts_of c.loop-joining.merged in
    let after = parts_of c.peek.new.self in
    let law = merged-is-feed c.peek.new.self g.met.F.PacketFeed.lawful in
    let has = c.in_ok-peek.ensures in
    let shows : ShowsItem (merged_feed mid) (Ok None) (merged_feed after) =
    shown.shows-end (merged_feed mid) (merged_feed after) law (has.keeps.told (i.walk.told t))
    (rw c.if-branch.false at has.answer).known (has.items (i.walk.told t)) in
    let rest = feeding mid c.loop-joining.joining.place i.events in
    Prints-ended c.args.order (form_state c.loop-joining.form) c.end_of.result _ _ _ _ rest.items c.end_of.ensures
    (shows-end mid (merged_feed after) c.loop-joining.joining.place i.events shows).1
    (i.walk.text t) w (i.walk.refusal_same t)

pub put_completed-requires-clause-taken : goal.put_completed-requires-clause-taken
put_completed-requires-clause-taken g c =
    let counting = c.loop-joining.invariant.1.0 in
    (counting.packets, counting.stands)

pub returns-clause-left : goal.returns-clause-left
returns-clause-left g c =
    let i = c.loop-joining.invariant.0 in
    let mid = parts_of c.loop-joining.merged in
    let after = parts_of c.peek.new.self in
    let law = merged-is-feed c.peek.new.self g.met.F.PacketFeed.lawful in
    let has = c.in_ok-peek.ensures in
    OnOk-of c.end_of.result _ (λ t.
    CountingOut-end (parts_of c.args.merged.now) mid (merged_feed after) c.loop-joining.joining.joiner
    c.loop-joining.joining.place c.loop-joining.joining.left c.loop-joining.invariant.1.0
    (shown.shows-end (merged_feed mid) (merged_feed after) law (has.keeps.told (i.walk.told t))
    (rw c.if-branch.false at has.answer).known (has.items (i.walk.told t))) t)

pub loop-joining-init : goal.loop-joining-init
loop-joining-init g c = (
  search rules,
  (
    CountingOut-none (parts_of c.args.merged.now) c.new.result c.args.left.now
        (taken-no-packet c.new.result c.args.left.now c.new.ensures.stands c.requires.none),
    refl,
  ),
)
