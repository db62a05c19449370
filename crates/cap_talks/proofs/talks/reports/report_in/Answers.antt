use Rattle.std.proofs.Common.{length, map}
use Rattle.cap_merge.specs.Files.{clocked_run, endings_of_files}
use Rattle.cap_talks.specs.talks.ReportText.{report_refusal, report_text_in}
use Rattle.cap_talks.proofs.Telling.{fails-and, is-write-and, tells-and}
use Rattle.cap_talks.proofs.talks.reports.report_in.Goals as goal

pub returns-clause-text : goal.returns-clause-text
returns-clause-text g c = λ t w.
    let files = map g.R.Source.coming c.args.sources.items in
    let run = clocked_run c.args.tail files in
    rw c.and.ensures
    (tells-and
    (report_text_in c.args.form (length c.args.sources.items) (endings_of_files c.args.tail files) run)
    (report_refusal run) (g.W.Sink.held c.args.writer.now) (g.W.Sink.held c.report_and_count.new.writer)
    c.report_and_count.result (c.report_and_count.ensures.text t w))

pub returns-clause-writer : goal.returns-clause-writer
returns-clause-writer g c = rw (c.and.ensures, is-write-and c.report_and_count.result) c.report_and_count.ensures.writer

pub returns-clause-read : goal.returns-clause-read
returns-clause-read g c = rw c.and.ensures
    (fails-and _ c.report_and_count.result c.report_and_count.ensures.read)
