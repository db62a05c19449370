use Rattle.std.proofs.Common.{[], ◌∷◌, IsTrue, Ok, Err, sym, subst, Bool}
use Rattle.std.proofs.lemmas.Result.{err_from_is_err_and}
use Rattle.cap_source.specs.inner.Captures.{capture_feed}
use Rattle.cap_commands.proofs.Leaving.{Walks-done, DroppedInfo-one, Prints-file}
use Rattle.cap_commands.proofs.Telling.{FailsOf-fault, Prints-fault}
use Rattle.cap_commands.specs.declared.left.DroppedInfo.{DroppedInfo}
use Rattle.cap_write.proofs.Starting.{FailsOf-one}
use Rattle.cap_commands.proofs.counting.convert_and_count.Goals as goal

pub returns-clause-text : goal.returns-clause-text
returns-clause-text g c = λ t w.
    let e = c.with_comments-capture.ensures in
    Prints-file c.args.format c.args.order c.args.tail _ _ _ _ (g.W.Sink.held c.args.writer.now)
    (g.W.Sink.held c.write_file.new.writer) (Ok c.in_ok-write_file.field-0) e.number e.first e.items
    (c.in_ok-write_file.ensures.text (subst (λ (b : Bool). IsTrue b) (sym e.told) t) w)

pub returns-in_err-write_file-clause-text : goal.returns-in_err-write_file-clause-text
returns-in_err-write_file-clause-text g c =
    let e = c.with_comments-capture.ensures in
    let p = err_from_is_err_and c.from_residual.result c.from_residual.ensures.1 in
    rw (p.1, p.2)
    (λ t w. Prints-fault (Unit {0}) DroppedInfo c.in_err-write_file.field-0.0 _ _ (g.W.Sink.held c.args.writer.now)
    (g.W.Sink.held c.write_file.new.writer)
    (Prints-file c.args.format c.args.order c.args.tail _ _ _ _ (g.W.Sink.held c.args.writer.now)
    (g.W.Sink.held c.write_file.new.writer) (Err c.in_err-write_file.field-0.0) e.number e.first e.items
    (c.in_err-write_file.ensures.text (subst (λ (b : Bool). IsTrue b) (sym e.told) t) w)))

pub returns-in_err-write_file-clause-read : goal.returns-in_err-write_file-clause-read
returns-in_err-write_file-clause-read g c =
    let e = c.with_comments-capture.ensures in
    let p = err_from_is_err_and c.from_residual.result c.from_residual.ensures.1 in
    rw (p.1, p.2)
    (FailsOf-fault (Unit {0}) DroppedInfo c.in_err-write_file.field-0.0 (g.R.Device.can_fail c.args.source ∷ [])
    (FailsOf-one {A = Unit {0}} (capture_feed c.with_comments-capture.result) (capture_feed c.write_file.new.capture)
    (g.R.Device.can_fail c.args.source) (Err c.in_err-write_file.field-0.0) c.in_err-write_file.ensures.walks e.files
    e.can_fail))

pub left_of_one-requires-clause-end : goal.left_of_one-requires-clause-end
left_of_one-requires-clause-end g c = Walks-done _ _ (Ok c.in_ok-write_file.field-0) c.in_ok-write_file.ensures.walks

pub returns-clause-left : goal.returns-clause-left
returns-clause-left g c =
    let e = c.with_comments-capture.ensures in
    DroppedInfo-one (capture_feed c.with_comments-capture.result) (capture_feed c.write_file.new.capture) _ _
    (Ok c.in_ok-write_file.field-0) c.left_of_one.result e.told e.endings c.in_ok-write_file.ensures.endings
    c.left_of_one.ensures
