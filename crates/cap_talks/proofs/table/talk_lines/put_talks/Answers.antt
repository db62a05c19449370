use Rattle.std.proofs.Common.{◌∙◌, None, length, ap}
use Rattle.std.proofs.lemmas.Result.{err_from_is_err_and}
use Rattle.cap_bytes.proofs.Putting.{Prints-head, Prints-behind}
use Rattle.cap_print.specs.Facts.{line_in}
use Rattle.cap_talks.specs.table.TalkLines.{talk_texts_in, talks_facts}
use Rattle.cap_talks.proofs.table.talk_lines.put_talks.Goals as goal

pub returns-in_err-put_all-clause-text : goal.returns-in_err-put_all-clause-text
returns-in_err-put_all-clause-text g c = λ rows shows w.
    let p = err_from_is_err_and c.from_residual.result c.from_residual.ensures.1 in
    let all = c.args.talks.now.rows in
    let line_is = c.as_slice.ensures.value ∙ c.talks_line-line.ensures ∙ ap (λ n. line_in c.args.form
    (talks_facts n)) c.len.ensures.value in
    rw (p.1, p.2)
    (Prints-head None (g.W.Sink.held c.args.writer.now) (g.W.Sink.held c.put_all.new.writer) (line_in c.args.form
    (talks_facts (length all)))
    (talk_texts_in c.args.form rows)
    c.in_err-put_all.field-0.0 c.in_err-put_all.ensures.fault (rw line_is at (c.in_err-put_all.ensures.bytes w)))

pub returns-clause-text : goal.returns-clause-text
returns-clause-text g c = λ rows shows w.
    let all = c.args.talks.now.rows in
    let line_is = c.as_slice.ensures.value ∙ c.talks_line-line.ensures ∙ ap (λ n. line_in c.args.form
    (talks_facts n)) c.len.ensures.value in
    Prints-behind None (g.W.Sink.held c.args.writer.now) (g.W.Sink.held c.put_all.new.writer)
    (g.W.Sink.held c.put_shown.new.writer) (line_in c.args.form (talks_facts (length all)))
    (talk_texts_in c.args.form rows)
    c.put_shown.result (rw line_is at (c.in_ok-put_all.ensures.bytes w))
    (c.put_shown.ensures.text rows shows (c.in_ok-put_all.ensures.writer.told w))
