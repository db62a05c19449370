use Rattle.std.proofs.Common.{None, ◌∙◌}
use Rattle.std.proofs.lemmas.Result.{err_from_is_err_and}
use Rattle.cap_bytes.proofs.Putting.{Prints-head, Prints-behind}
use Rattle.cap_commands.specs.DiffText.{before_side, side_in}
use Rattle.cap_commands.specs.inner.DiffWalk.{compared_of}
use Rattle.cap_commands.proofs.diff.put_side.Goals as goal

pub returns-in_err-put_all-clause-text : goal.returns-in_err-put_all-clause-text
returns-in_err-put_all-clause-text g c = λ w.
    let p = err_from_is_err_and c.from_residual.result c.from_residual.ensures.1 in
    let a = c.args in
    let packet = compared_of a.packet (g.F.PacketFeed.feed a.feed.now).frame in
    let side = side_in a.form a.shown.most a.n a.shown.from a.cut packet in
    rw (p.1, p.2)
    (Prints-head None (g.W.Sink.held a.writer.now) (g.W.Sink.held c.put_all.new.writer)
    (before_side a.form a.sign.now a.shown.from) side c.in_err-put_all.field-0.0 c.in_err-put_all.ensures.fault
    (rw (c.as_slice.ensures.value ∙ c.side_head-head.ensures) at (c.in_err-put_all.ensures.bytes w)))

pub returns-clause-text : goal.returns-clause-text
returns-clause-text g c = λ w.
    let a = c.args in
    let packet = compared_of a.packet (g.F.PacketFeed.feed a.feed.now).frame in
    let side = side_in a.form a.shown.most a.n a.shown.from a.cut packet in
    Prints-behind None (g.W.Sink.held a.writer.now) (g.W.Sink.held c.put_all.new.writer)
    (g.W.Sink.held c.put_next.new.writer) (before_side a.form a.sign.now a.shown.from) side c.put_next.result
    (rw (c.as_slice.ensures.value ∙ c.side_head-head.ensures) at (c.in_ok-put_all.ensures.bytes w))
    (c.put_next.ensures.text (c.in_ok-put_all.ensures.writer.told w))
