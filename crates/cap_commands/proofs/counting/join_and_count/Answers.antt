use Rattle.std.proofs.lemmas.Result.{err_from_is_err_and}
use Rattle.std.proofs.Common.{Ok, Err, arith}
use Rattle.cap_merge.proofs.Unread.{Fails-merged}
use Rattle.cap_merge.specs.Parts.{merged_feed}
use Rattle.cap_merge.specs.inner.Readers.{reader_of}
use Rattle.cap_merge.specs.inner.View.{parts_of}
use Rattle.cap_commands.proofs.Leaving.{Walks-done, Drops-merged, LeavesPackets-joined}
use Rattle.cap_commands.proofs.Merging.{Prints-joined, Prints-nothing}
use Rattle.cap_commands.proofs.Telling.{FailsOf-fault, Prints-fault}
use Rattle.cap_commands.specs.declared.left.DroppedInfo.{DroppedInfo}
use Rattle.cap_commands.proofs.counting.join_and_count.Goals as goal

pub returns-in_err-run-clause-text : goal.returns-in_err-run-clause-text
returns-in_err-run-clause-text g c = grind (arith, err_from_is_err_and, Prints-nothing)

pub returns-in_err-write_datagrams-clause-text : goal.returns-in_err-write_datagrams-clause-text
returns-in_err-write_datagrams-clause-text g c =
    let reader = reader_of g.R.Source.tells_coming g.R.Device.can_fail g.R.Source.coming in
    let r = c.from_residual-in_err-write_datagrams in
    let p = err_from_is_err_and r.result r.ensures.1 in
    rw (p.1, p.2)
    (λ t w. Prints-fault (Unit {0}) DroppedInfo c.in_err-write_datagrams.field-0.0 _ _ (g.W.Sink.held c.args.writer.now)
    (g.W.Sink.held c.write_datagrams.new.writer)
    (Prints-joined reader c.args.tail c.args.format c.args.order c.args.sources.items _
    (g.W.Sink.held c.args.writer.now) (g.W.Sink.held c.write_datagrams.new.writer)
    (Err c.in_err-write_datagrams.field-0.0)
    c.in_ok-run.ensures.unread (λ told. c.in_err-write_datagrams.ensures.text told w) t))

pub returns-in_err-write_datagrams-clause-read : goal.returns-in_err-write_datagrams-clause-read
returns-in_err-write_datagrams-clause-read g c =
    let reader = reader_of g.R.Source.tells_coming g.R.Device.can_fail g.R.Source.coming in
    let r = c.from_residual-in_err-write_datagrams in
    let p = err_from_is_err_and r.result r.ensures.1 in
    rw (p.1, p.2)
    (FailsOf-fault (Unit {0}) DroppedInfo c.in_err-write_datagrams.field-0.0 _
    (Fails-merged {B = Unit {0}} reader c.args.tail c.args.sources.items _
    (merged_feed (parts_of c.write_datagrams.new.merged))
    (Err c.in_err-write_datagrams.field-0.0) c.in_ok-run.ensures.unread c.in_err-write_datagrams.ensures.walks))

pub returns-clause-text : goal.returns-clause-text
returns-clause-text g c = λ t w.
    let reader = reader_of g.R.Source.tells_coming g.R.Device.can_fail g.R.Source.coming in
    Prints-joined reader c.args.tail c.args.format c.args.order c.args.sources.items _
    (g.W.Sink.held c.args.writer.now) (g.W.Sink.held c.write_datagrams.new.writer) (Ok c.in_ok-write_datagrams.field-0)
    c.in_ok-run.ensures.unread (λ told. c.in_ok-write_datagrams.ensures.text told w) t

pub left_of_merged-requires : goal.left_of_merged-requires
left_of_merged-requires g c =
    record { end = Walks-done _ _ (Ok c.in_ok-write_datagrams.field-0) c.in_ok-write_datagrams.ensures.walks }

pub returns-clause-dropped : goal.returns-clause-dropped
returns-clause-dropped g c =
    let reader = reader_of g.R.Source.tells_coming g.R.Device.can_fail g.R.Source.coming in
    Drops-merged reader c.args.tail c.args.sources.items _ (merged_feed (parts_of c.write_datagrams.new.merged))
    (Ok c.in_ok-write_datagrams.field-0) c.left_of_merged.result c.in_ok-run.ensures.unread
    c.in_ok-write_datagrams.ensures.keeps c.in_ok-write_datagrams.ensures.endings c.left_of_merged.ensures.dropped

pub returns-clause-packets : goal.returns-clause-packets
returns-clause-packets g c =
    let reader = reader_of g.R.Source.tells_coming g.R.Device.can_fail g.R.Source.coming in
    LeavesPackets-joined reader c.args.tail c.args.sources.items _ c.args.counts c.no_packets_if-left_out.result
    c.write_datagrams.new.left c.left_of_merged.result c.in_ok-run.ensures.unread c.no_packets_if-left_out.ensures.asked
    c.in_ok-write_datagrams.ensures.asked c.in_ok-write_datagrams.ensures.left c.left_of_merged.ensures.packets
