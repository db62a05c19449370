use Rattle.std.proofs.Common.{◌∙◌, None, length}
use Rattle.std.proofs.lemmas.Result.{err_from_is_err_and}
use Rattle.cap_bytes.proofs.Putting.{Prints-head, Prints-behind}
use Rattle.cap_print.specs.Facts.{line_in}
use Rattle.cap_talks.specs.counts.FileLines.{files_facts}
use Rattle.cap_talks.specs.counts.FileLines.{counted_texts_in}
use Rattle.cap_talks.proofs.counts.files.put_files.Goals as goal

pub returns-in_err-put_all-clause-text : goal.returns-in_err-put_all-clause-text
returns-in_err-put_all-clause-text g c = λ w.
    let p = err_from_is_err_and c.from_residual.result c.from_residual.ensures.1 in
    let all = c.args.counted.now in
    let line_is = c.as_slice-text.ensures.value ∙ c.files_line-line.ensures in
    rw (p.1, p.2)
    (Prints-head None (g.W.Sink.held c.args.writer.now) (g.W.Sink.held c.put_all.new.writer) (line_in c.args.form
    (files_facts (length all)))
    (counted_texts_in c.args.form 1 all)
    c.in_err-put_all.field-0.0 c.in_err-put_all.ensures.fault (rw line_is at (c.in_err-put_all.ensures.bytes w)))

pub returns-clause-text : goal.returns-clause-text
returns-clause-text g c = λ w.
    let all = c.args.counted.now in
    let line_is = c.as_slice-text.ensures.value ∙ c.files_line-line.ensures in
    Prints-behind None (g.W.Sink.held c.args.writer.now) (g.W.Sink.held c.put_all.new.writer)
    (g.W.Sink.held c.put_each.new.writer) (line_in c.args.form (files_facts (length all)))
    (counted_texts_in c.args.form 1 all)
    c.put_each.result (rw line_is at (c.in_ok-put_all.ensures.bytes w))
    (c.put_each.ensures.text (c.in_ok-put_all.ensures.writer.told w))
