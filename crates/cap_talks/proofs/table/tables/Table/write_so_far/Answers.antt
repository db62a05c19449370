use Rattle.std.proofs.Common.{None, subst, length, sym}
use Rattle.cap_bytes.specs.Printing.{Prints}
use Rattle.cap_print.specs.declared.forms.Form.TheVariants.{Text}
use Rattle.cap_print.specs.declared.forms.TimeForm.TheVariants.{Exact}
use Rattle.cap_talks.specs.inner.table.Stepping.{endings_so_far}
use Rattle.cap_talks.specs.inner.table.TableView.{table_of}
use Rattle.cap_talks.specs.table.Conversations.{rows_of}
use Rattle.cap_talks.specs.table.CountedUnits.{units_for}
use Rattle.cap_talks.proofs.TableTexts.{text-all}
use Rattle.cap_talks.proofs.table.tables.Table.write_so_far.Goals as goal

pub returns-clause-text : goal.returns-clause-text
returns-clause-text g c = λ xs stands w.
    let t = table_of c.args.self.now in
    subst (λ text. Prints {A = Unit {0}} text None (g.W.Sink.held c.args.writer.now) c.write_in.result
    (g.W.Sink.held c.write_in.new.writer))
    (text-all t.tally.reads (Text Exact) (length t.totals.files) (endings_so_far t) xs)
    (c.write_in.ensures.text xs (rows_of (units_for t.tally.reads xs)) stands (sym stands.tally.talks.rows) w)
