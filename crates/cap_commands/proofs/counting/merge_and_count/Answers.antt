use Rattle.std.proofs.lemmas.Result.{err_from_is_err_and}
use Rattle.std.proofs.Common.{Ok, Err, arith}
use Rattle.cap_merge.proofs.Unread.{Fails-merged}
use Rattle.cap_merge.specs.Parts.{merged_feed}
use Rattle.cap_merge.specs.inner.Readers.{reader_of}
use Rattle.cap_merge.specs.inner.View.{parts_of}
use Rattle.cap_commands.proofs.Leaving.{Walks-done, Drops-merged}
use Rattle.cap_commands.proofs.Merging.{Prints-merged, Prints-nothing}
use Rattle.cap_commands.proofs.Telling.{FailsOf-fault, Prints-fault}
use Rattle.cap_commands.specs.declared.left.DroppedInfo.{DroppedInfo}
use Rattle.cap_commands.proofs.counting.merge_and_count.Goals as goal

pub returns-in_err-merged-clause-text : goal.returns-in_err-merged-clause-text
returns-in_err-merged-clause-text g c = grind (arith, err_from_is_err_and, Prints-nothing)

pub returns-in_err-write_run-clause-text : goal.returns-in_err-write_run-clause-text
returns-in_err-write_run-clause-text g c =
    let reader = reader_of g.R.Source.tells_coming g.R.Device.can_fail g.R.Source.coming in
    let p = err_from_is_err_and c.from_residual-in_err-write_run.result c.from_residual-in_err-write_run.ensures.1 in
    rw (p.1, p.2)
    (λ t w. Prints-fault (Unit {0}) DroppedInfo c.in_err-write_run.field-0.0 _ _ (g.W.Sink.held c.args.writer.now)
    (g.W.Sink.held c.write_run.new.writer)
    (Prints-merged reader c.args.tail c.args.form c.args.order c.args.sources.items _
    (g.W.Sink.held c.args.writer.now) (g.W.Sink.held c.write_run.new.writer) (Err c.in_err-write_run.field-0.0)
    c.in_ok-merged.ensures.unread (λ told. c.in_err-write_run.ensures.text told w) t))

pub returns-in_err-write_run-clause-read : goal.returns-in_err-write_run-clause-read
returns-in_err-write_run-clause-read g c =
    let reader = reader_of g.R.Source.tells_coming g.R.Device.can_fail g.R.Source.coming in
    let p = err_from_is_err_and c.from_residual-in_err-write_run.result c.from_residual-in_err-write_run.ensures.1 in
    rw (p.1, p.2)
    (FailsOf-fault (Unit {0}) DroppedInfo c.in_err-write_run.field-0.0 _
    (Fails-merged {B = Unit {0}} reader c.args.tail c.args.sources.items _
    (merged_feed (parts_of c.write_run.new.merged))
    (Err c.in_err-write_run.field-0.0) c.in_ok-merged.ensures.unread c.in_err-write_run.ensures.walks))

pub returns-clause-text : goal.returns-clause-text
returns-clause-text g c = λ t w.
    let reader = reader_of g.R.Source.tells_coming g.R.Device.can_fail g.R.Source.coming in
    Prints-merged reader c.args.tail c.args.form c.args.order c.args.sources.items _
    (g.W.Sink.held c.args.writer.now) (g.W.Sink.held c.write_run.new.writer) (Ok c.in_ok-write_run.field-0)
    c.in_ok-merged.ensures.unread (λ told. c.in_ok-write_run.ensures.text told w) t

pub left_of_merged-requires : goal.left_of_merged-requires
left_of_merged-requires g c =
    record { end = Walks-done _ _ (Ok c.in_ok-write_run.field-0) c.in_ok-write_run.ensures.walks }

pub returns-clause-dropped : goal.returns-clause-dropped
returns-clause-dropped g c =
    let reader = reader_of g.R.Source.tells_coming g.R.Device.can_fail g.R.Source.coming in
    Drops-merged reader c.args.tail c.args.sources.items _ (merged_feed (parts_of c.write_run.new.merged))
    (Ok c.in_ok-write_run.field-0) c.left_of_merged.result c.in_ok-merged.ensures.unread
    c.in_ok-write_run.ensures.keeps c.in_ok-write_run.ensures.endings c.left_of_merged.ensures.dropped
