use Rattle.std.proofs.Common.{◌++◌, ◌∙◌, Some, None, Err, length, ap, subst}
use Rattle.std.specs.Prelude.{if◌then◌else◌}
use Rattle.std.proofs.lemmas.Result.{err_from_is_err_and}
use Rattle.cap_bytes.proofs.Putting.{Prints-head, Prints-behind}
use Rattle.cap_bytes.specs.Printing.{Prints}
use Rattle.cap_merge.specs.Parts.{merged_feed}
use Rattle.cap_merge.specs.inner.View.{parts_of}
use Rattle.cap_print.specs.Facts.{line_in}
use Rattle.cap_talks.specs.counts.FileLines.{files_facts}
use Rattle.cap_talks.specs.counts.FileLines.{ended_from, counted_texts_in}
use Rattle.cap_talks.specs.table.TakenText.{total_facts}
use Rattle.cap_talks.specs.inner.table.Stepping.{next_taken}
use Rattle.cap_talks.specs.inner.table.Tallies.{tally_text_in}
use Rattle.cap_talks.proofs.TableTexts.{text-is}
use Rattle.cap_talks.proofs.Written.{prints-first}
use Rattle.cap_talks.proofs.table.tables.Table.write_in.Goals as goal

pub returns-in_err-put_files-clause-text : goal.returns-in_err-put_files-clause-text
returns-in_err-put_files-clause-text g c = λ xs rows stands shows w.
    let t = c.args.self.now in
    let p = err_from_is_err_and c.from_residual.result c.from_residual.ensures.1 in
    let endings = if t.done then Some (merged_feed (parts_of t.merged)).endings else None in
    let ended = c.as_slice.result.now in
    let file_lines = line_in c.args.form (files_facts (length ended)) ++ counted_texts_in c.args.form 1 ended in
    let ended_is = rw (ap (ended_from endings 1) c.files.ensures.files) at (c.as_slice.ensures.value
    ∙ c.with_endings-counted.ensures) in
    let rest = line_in c.args.form (total_facts t.totals.packets t.totals.bytes t.totals.truncated)
    ++ tally_text_in c.args.form rows t.tally in
    rw (p.1, p.2)
    (subst (λ text. Prints {A = Unit {0}} text None (g.W.Sink.held c.args.writer.now) (Err c.in_err-put_files.field-0.0)
    (g.W.Sink.held c.put_files.new.writer))
    (text-is c.args.form rows endings t.totals t.tally xs (next_taken
    (parts_of t.merged)) ended stands.totals stands.tally ended_is)
    (prints-first (g.W.Sink.held c.args.writer.now)
    (g.W.Sink.held c.put_files.new.writer) file_lines rest c.in_err-put_files.field-0.0 c.in_err-put_files.ensures.fault
    (c.in_err-put_files.ensures.text w)))

pub returns-in_err-put_all-clause-text : goal.returns-in_err-put_all-clause-text
returns-in_err-put_all-clause-text g c = λ xs rows stands shows w.
    let t = c.args.self.now in
    let p = err_from_is_err_and c.from_residual-in_err-put_all.result c.from_residual-in_err-put_all.ensures.1 in
    let endings = if t.done then Some (merged_feed (parts_of t.merged)).endings else None in
    let ended = c.as_slice.result.now in
    let file_lines = line_in c.args.form (files_facts (length ended)) ++ counted_texts_in c.args.form 1 ended in
    let ended_is = rw (ap (ended_from endings 1) c.files.ensures.files) at (c.as_slice.ensures.value
    ∙ c.with_endings-counted.ensures) in
    let total = line_in c.args.form (total_facts t.totals.packets t.totals.bytes t.totals.truncated) in
    let line_is = c.as_slice-2.ensures.value ∙ c.total_line-line.ensures
    ∙ (λ i. line_in c.args.form (total_facts (c.packets.ensures i) (c.bytes.ensures i) (c.truncated.ensures i))) in
    let e = c.in_ok-put_files.ensures in
    rw (p.1, p.2)
    (subst (λ text. Prints {A = Unit {0}} text None (g.W.Sink.held c.args.writer.now) (Err c.in_err-put_all.field-0.0)
    (g.W.Sink.held c.put_all.new.writer))
    (text-is c.args.form rows endings t.totals t.tally xs (next_taken
    (parts_of t.merged)) ended stands.totals stands.tally ended_is)
    (Prints-behind None (g.W.Sink.held c.args.writer.now) (g.W.Sink.held c.put_files.new.writer)
    (g.W.Sink.held c.put_all.new.writer) file_lines (total ++ tally_text_in c.args.form rows t.tally)
    (Err c.in_err-put_all.field-0.0) (e.text w).1
    (Prints-head None (g.W.Sink.held c.put_files.new.writer) (g.W.Sink.held c.put_all.new.writer) total
    (tally_text_in c.args.form rows t.tally) c.in_err-put_all.field-0.0 c.in_err-put_all.ensures.fault
    (rw line_is at (c.in_err-put_all.ensures.bytes (e.writer.told w))))))

pub returns-clause-text : goal.returns-clause-text
returns-clause-text g c = λ xs rows stands shows w.
    let t = c.args.self.now in
    let endings = if t.done then Some (merged_feed (parts_of t.merged)).endings else None in
    let ended = c.as_slice.result.now in
    let file_lines = line_in c.args.form (files_facts (length ended)) ++ counted_texts_in c.args.form 1 ended in
    let ended_is = rw (ap (ended_from endings 1) c.files.ensures.files) at (c.as_slice.ensures.value
    ∙ c.with_endings-counted.ensures) in
    let total = line_in c.args.form (total_facts t.totals.packets t.totals.bytes t.totals.truncated) in
    let line_is = c.as_slice-2.ensures.value ∙ c.total_line-line.ensures
    ∙ (λ i. line_in c.args.form (total_facts (c.packets.ensures i) (c.bytes.ensures i) (c.truncated.ensures i))) in
    let e = c.in_ok-put_files.ensures in
    let f = c.in_ok-put_all.ensures in
    subst (λ text. Prints {A = Unit {0}} text None (g.W.Sink.held c.args.writer.now) c.put_lines.result
    (g.W.Sink.held c.put_lines.new.writer))
    (text-is c.args.form rows endings t.totals t.tally xs (next_taken
    (parts_of t.merged)) ended stands.totals stands.tally ended_is)
    (Prints-behind None (g.W.Sink.held c.args.writer.now) (g.W.Sink.held c.put_files.new.writer)
    (g.W.Sink.held c.put_lines.new.writer) file_lines (total ++ tally_text_in c.args.form rows t.tally)
    c.put_lines.result (e.text w).1
    (Prints-behind None (g.W.Sink.held c.put_files.new.writer) (g.W.Sink.held c.put_all.new.writer)
    (g.W.Sink.held c.put_lines.new.writer) total (tally_text_in c.args.form rows t.tally) c.put_lines.result
    (rw line_is at (f.bytes (e.writer.told w)))
    (c.put_lines.ensures.text rows shows (f.writer.told (e.writer.told w)))))
