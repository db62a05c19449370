use Rattle.std.proofs.Common.{map}
use Rattle.cap_talks.specs.talks.InfoText.{first_refusal, info_text_in}
use Rattle.cap_talks.proofs.Telling.{fails-and, fails-first-and, is-write-and, tells-and}
use Rattle.cap_talks.proofs.talks.files.file_lines_in.Goals as goal

pub returns-clause-text : goal.returns-clause-text
returns-clause-text g c = λ t w.
    let files = map g.R.Source.coming c.args.sources.items in
    rw c.and.ensures
    (tells-and (info_text_in c.args.form c.args.tail files) (first_refusal c.args.tail 1 files)
    (g.W.Sink.held c.args.writer.now) (g.W.Sink.held c.file_lines_and_cuts.new.writer) c.file_lines_and_cuts.result
    (c.file_lines_and_cuts.ensures.text t w))

pub returns-clause-writer : goal.returns-clause-writer
returns-clause-writer g c = rw (c.and.ensures, is-write-and c.file_lines_and_cuts.result)
    c.file_lines_and_cuts.ensures.writer

pub returns-clause-read : goal.returns-clause-read
returns-clause-read g c = rw c.and.ensures
    (fails-and _ c.file_lines_and_cuts.result c.file_lines_and_cuts.ensures.read)

pub returns-clause-first : goal.returns-clause-first
returns-clause-first g c = λ t. rw c.and.ensures
    (fails-first-and _ _ c.file_lines_and_cuts.result (c.file_lines_and_cuts.ensures.first t))
