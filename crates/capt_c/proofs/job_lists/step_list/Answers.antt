use Rattle.std.proofs.Common.{◌++◌, Some, Ok, ap, ◌∙◌}
use Rattle.std.proofs.lemmas.Result.{err_from_is_err_and}
use Rattle.cap_source.specs.inner.Walk.{ShowsItem}
use Rattle.cap_write.proofs.Peeking.{found-end, found-fault, found-item}
use Rattle.cap_commands.specs.ClassText.{packet_line_by}
use Rattle.capt_c.proofs.JobSteps.{list-end, list-fault, list-more}
use Rattle.capt_c.proofs.job_lists.step_list.Goals as goal

pub returns-in_err-peek-clause-step : goal.returns-in_err-peek-clause-step
returns-in_err-peek-clause-step g c =
    let p = err_from_is_err_and c.from_residual.result c.from_residual.ensures.1 in
    let mid = g.F.PacketFeed.feed c.args.feed.now in
    let shown = g.F.PacketFeed.feed c.peek.new.self in
    let e = c.in_err-peek.ensures in
    let fault = c.in_err-peek.field-0.0 in
    rw (p.1, p.2) (list-fault c.args.options c.args.number.now c.args.text.now.items fault mid shown c.requires e.answer
    (found-fault fault mid shown (g.met.F.PacketFeed.lawful c.peek.new.self) (e.keeps.told c.requires.told)
    (e.items c.requires.told) e.answer))

pub returns-then-not-branch-clause-step : goal.returns-then-not-branch-clause-step
returns-then-not-branch-clause-step g c =
    let mid = g.F.PacketFeed.feed c.args.feed.now in
    let shown = g.F.PacketFeed.feed c.peek.new.self in
    let e = c.in_ok-peek.ensures in
    list-end c.args.options c.args.number.now c.args.text.now.items mid shown
    (found-end mid shown (g.met.F.PacketFeed.lawful c.peek.new.self) (e.keeps.told c.requires.told)
    (e.items c.requires.told) (rw c.if-not-branch.true at e.answer))

-- the line of the packet is made, and the others come after it
pub returns-clause-step : goal.returns-clause-step
returns-clause-step g c =
    let mid = g.F.PacketFeed.feed c.args.feed.now in
    let shown = g.F.PacketFeed.feed c.peek.new.self in
    let new = g.F.PacketFeed.feed c.pass.new.self in
    let e = c.in_ok-peek.ensures in
    let told = e.keeps.told c.requires.told in
    let meta = c.packet.result.now in
    let o = c.args.options in
    let shows : ShowsItem mid (Ok (Some meta)) shown =
    found-item mid shown meta (g.met.F.PacketFeed.lawful c.peek.new.self) told (e.items c.requires.told)
    c.packet.ensures.packet in
    let wrote = c.in_ok-append_packet.ensures.text in
    list-more o c.args.number.now c.args.text.now.items c.append_packet.new.text.items meta mid shown new shows
    (c.pass.ensures.passes.items told)
    (wrote ∙ ap (λ f. c.args.text.now.items ++ packet_line_by o.class o.ipv6 o.form o.most c.args.number.now meta f)
    c.frame.ensures.frame)
