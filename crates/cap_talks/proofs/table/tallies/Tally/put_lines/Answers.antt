use Rattle.std.proofs.Common.{◌++◌, None, Err, length, ap, subst, sym}
use Rattle.std.proofs.lemmas.Result.{err_from_is_err_and}
use Rattle.cap_bytes.proofs.Putting.{Prints-behind}
use Rattle.cap_bytes.specs.Printing.{Prints}
use Rattle.cap_print.specs.Facts.{line_in}
use Rattle.cap_talks.specs.table.TakenText.{frames_facts_for, joined_facts}
use Rattle.cap_talks.specs.inner.table.Ranked.{Shows}
use Rattle.cap_talks.specs.inner.table.Tallies.{TallyState, tally_text_in}
use Rattle.cap_talks.specs.table.TalkLines.{talk_texts_in, talks_facts}
use Rattle.cap_talks.proofs.Written.{prints-first}
use Rattle.cap_talks.proofs.table.tallies.Tally.put_lines.Goals as goal

pub returns-in_err-put_counts-clause-text : goal.returns-in_err-put_counts-clause-text
unfolding tally_text_in
returns-in_err-put_counts-clause-text g c = λ rows shows w.
    let p = err_from_is_err_and c.from_residual.result c.from_residual.ensures.1 in
    let t = c.self.inside in
    rw (p.1, p.2)
    (subst (λ (n : TallyState). Prints {A = Unit {0}} (tally_text_in c.args.form rows n) None
    (g.W.Sink.held c.args.writer.now)
    (Err c.in_err-put_counts.field-0.0) (g.W.Sink.held c.put_counts.new.writer)) c.self.view_is
    (prints-first (g.W.Sink.held c.args.writer.now) (g.W.Sink.held c.put_counts.new.writer)
    (line_in c.args.form (frames_facts_for t.reads_ipv6 t.classes) ++ line_in c.args.form
    (joined_facts t.joined t.joiner.given_up))
    (line_in c.args.form (talks_facts (length t.talks.rows)) ++ talk_texts_in c.args.form rows)
    c.in_err-put_counts.field-0.0 c.in_err-put_counts.ensures.fault
    (subst (λ n. Prints {A = Unit {0}} (line_in c.args.form (frames_facts_for t.reads_ipv6 t.classes) ++ line_in
    c.args.form
    (joined_facts t.joined n)) None
    (g.W.Sink.held c.args.writer.now) (Err c.in_err-put_counts.field-0.0) (g.W.Sink.held c.put_counts.new.writer))
    c.given_up.ensures.value (c.in_err-put_counts.ensures.text w))))

pub returns-clause-text : goal.returns-clause-text
unfolding tally_text_in
returns-clause-text g c = λ rows shows w.
    let t = c.self.inside in
    let e = c.in_ok-put_counts.ensures in
    let shows_inside = subst (λ (n : TallyState). Shows n.talks.rows c.args.shown.now rows) (sym c.self.view_is)
    shows in
    rw (← c.self.view_is)
    (Prints-behind None (g.W.Sink.held c.args.writer.now) (g.W.Sink.held c.put_counts.new.writer)
    (g.W.Sink.held c.put_talks.new.writer)
    (line_in c.args.form (frames_facts_for t.reads_ipv6 t.classes) ++ line_in c.args.form
    (joined_facts t.joined t.joiner.given_up))
    (line_in c.args.form (talks_facts (length t.talks.rows)) ++ talk_texts_in c.args.form rows)
    c.put_talks.result (rw (ap (λ n. line_in c.args.form (joined_facts t.joined n)) c.given_up.ensures.value) at
    ((e.text w).1))
    (c.put_talks.ensures.text rows shows_inside (e.writer.told w)))
