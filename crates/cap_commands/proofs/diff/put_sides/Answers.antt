use Rattle.std.proofs.Common.{Bool, Err, None, ◌++◌, codes, subst}
use Rattle.std.specs.Prelude.{is_some}
use Rattle.std.proofs.lemmas.Result.{err_from_is_err_and}
use Rattle.cap_bytes.proofs.Putting.{Prints-behind}
use Rattle.cap_bytes.specs.Printing.{Prints}
use Rattle.cap_commands.proofs.Divergence.{Prints-more}
use Rattle.cap_commands.specs.DiffText.{before_side, side_in}
use Rattle.cap_commands.specs.inner.DiffWalk.{compared_of}
use Rattle.cap_commands.proofs.diff.put_sides.Goals as goal

pub returns-in_err-put_side-clause-text : goal.returns-in_err-put_side-clause-text
returns-in_err-put_side-clause-text g c = λ w.
    let p = err_from_is_err_and c.from_residual.result c.from_residual.ensures.1 in
    let a = c.args in
    let one = compared_of a.divergence.now.first (g.F.PacketFeed.feed a.first.now).frame in
    let other = compared_of a.divergence.now.second (g.F.PacketFeed.feed a.second.now).frame in
    let side = side_in a.form a.shown.most a.n a.shown.from in
    rw (p.1, p.2)
    (Prints-more (g.W.Sink.held a.writer.now) (g.W.Sink.held c.put_side.new.writer)
    (before_side a.form (codes "-") a.shown.from ++ side (is_some a.cuts.first) one)
    (before_side a.form (codes "+") a.shown.from ++ side (is_some a.cuts.second) other) c.in_err-put_side.field-0.0
    c.in_err-put_side.ensures.fault
    (subst (λ (cut : Bool). Prints {A = Unit {0}} (before_side a.form (codes "-") a.shown.from ++ side cut one) None
    (g.W.Sink.held a.writer.now) (Err c.in_err-put_side.field-0.0) (g.W.Sink.held c.put_side.new.writer))
    c.is_some.ensures (c.in_err-put_side.ensures.text w)))

pub returns-clause-text : goal.returns-clause-text
returns-clause-text g c = λ w.
    let a = c.args in
    let one = compared_of a.divergence.now.first (g.F.PacketFeed.feed a.first.now).frame in
    let other = compared_of a.divergence.now.second (g.F.PacketFeed.feed a.second.now).frame in
    let side = side_in a.form a.shown.most a.n a.shown.from in
    Prints-behind None (g.W.Sink.held a.writer.now) (g.W.Sink.held c.put_side.new.writer)
    (g.W.Sink.held c.put_side-2.new.writer)
    (before_side a.form (codes "-") a.shown.from ++ side (is_some a.cuts.first) one)
    (before_side a.form (codes "+") a.shown.from ++ side (is_some a.cuts.second) other) c.put_side-2.result
    (rw c.is_some.ensures at (c.in_ok-put_side.ensures.text w)).1
    (rw c.is_some-2.ensures at (c.put_side-2.ensures.text (c.in_ok-put_side.ensures.writer.told w)))
