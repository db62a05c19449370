use Rattle.std.proofs.Common.{Bool, IsTrue, ℕ, List, sym, subst}
use Rattle.cap_source.specs.inner.Walk.{Walks}
use Rattle.cap_merge.specs.Parts.{Part, merged_feed}
use Rattle.cap_merge.specs.inner.View.{parts_of}
use Rattle.cap_talks.specs.inner.table.TableView.{table_of}
use Rattle.cap_talks.specs.inner.talks.Reporting.{TellsReport}
use Rattle.cap_talks.proofs.Headline.{report-left}
use Rattle.cap_talks.proofs.talks.reports.report_merged.Goals as goal

pub returns-clause-text : goal.returns-clause-text
returns-clause-text g c = λ t w.
    let e = c.reading-table.ensures in
    subst (λ (q : Bool × (ℕ × List Part)). TellsReport q.0 c.args.options.form c.args.options.top q.1.0 q.1.1
    (g.W.Sink.held c.args.writer.now) c.report_table.result
    (g.W.Sink.held c.report_table.new.writer))
    (λ i. (e.reads i, (e.files i, e.parts i))) (c.report_table.ensures.text
    (subst (λ q. IsTrue (merged_feed q).told) (sym e.parts) t) w)

pub returns-clause-left : goal.returns-clause-left
returns-clause-left g c =
    let e = c.reading-table.ensures in
    report-left c.args.options.counts c.report_table.result (table_of c.reading-table.result).parts
    (parts_of c.args.merged) _ _ e.parts e.files c.report_table.ensures.left

pub returns-clause-walks : goal.returns-clause-walks
returns-clause-walks g c =
    let new = merged_feed (table_of c.report_table.new.table).parts in (
      new,
      subst (λ q. Walks (merged_feed q) c.report_table.result new) c.reading-table.ensures.parts
          c.report_table.ensures.walks,
    )
