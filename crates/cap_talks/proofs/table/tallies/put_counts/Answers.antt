use Rattle.std.proofs.Common.{◌∙◌, None}
use Rattle.std.proofs.lemmas.Result.{err_from_is_err_and}
use Rattle.cap_bytes.proofs.Putting.{Prints-head, Prints-behind}
use Rattle.cap_print.specs.Facts.{line_in}
use Rattle.cap_talks.specs.table.TakenText.{frames_facts_for, joined_facts}
use Rattle.cap_talks.proofs.Written.{prints-all}
use Rattle.cap_talks.proofs.table.tallies.put_counts.Goals as goal

pub returns-in_err-put_all-clause-text : goal.returns-in_err-put_all-clause-text
returns-in_err-put_all-clause-text g c = λ w.
    let p = err_from_is_err_and c.from_residual.result c.from_residual.ensures.1 in
    let line_is = c.as_slice.ensures.value ∙ c.frames_line-line.ensures in
    rw (p.1, p.2)
    (Prints-head None (g.W.Sink.held c.args.writer.now) (g.W.Sink.held c.put_all.new.writer)
    (line_in c.args.form (frames_facts_for c.args.reads_ipv6 c.args.classes.now)) (line_in c.args.form
    (joined_facts c.args.joined c.args.given_up))
    c.in_err-put_all.field-0.0 c.in_err-put_all.ensures.fault (rw line_is at (c.in_err-put_all.ensures.bytes w)))

pub returns-clause-text : goal.returns-clause-text
returns-clause-text g c = λ w.
    let first = c.as_slice.ensures.value ∙ c.frames_line-line.ensures in
    let second = c.as_slice-2.ensures.value ∙ c.joined_line-line.ensures in
    Prints-behind None (g.W.Sink.held c.args.writer.now) (g.W.Sink.held c.put_all.new.writer)
    (g.W.Sink.held c.put_all-2.new.writer) (line_in c.args.form (frames_facts_for c.args.reads_ipv6 c.args.classes.now))
    (line_in c.args.form (joined_facts c.args.joined c.args.given_up)) c.put_all-2.result (rw first at
    (c.in_ok-put_all.ensures.bytes w))
    (prints-all (line_in c.args.form
    (joined_facts c.args.joined c.args.given_up)) _ _ c.put_all-2.result c.put_all-2.ensures.fault
    (rw second at (c.put_all-2.ensures.bytes (c.in_ok-put_all.ensures.writer.told w))))
