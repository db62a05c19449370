use Rattle.std.proofs.Common.{Option, ◌∙◌}
use Rattle.std.proofs.lemmas.Result.{err_from_is_err_and}
use Rattle.cap_talks.specs.declared.table.others.OtherCounts.{OtherCounts}
use Rattle.cap_talks.specs.declared.talks.reports.ReportLeft.{ReportLeft}
use Rattle.cap_talks.specs.inner.table.TableView.{table_of}
use Rattle.cap_talks.proofs.Headline.{report-fault, took-cuts, walks-fault}
use Rattle.cap_talks.proofs.talks.reports.report_table.Goals as goal

pub returns-in_err-not_ipv4-clause-text : goal.returns-in_err-not_ipv4-clause-text
returns-in_err-not_ipv4-clause-text g c = λ t w.
    let p = err_from_is_err_and c.from_residual.result c.from_residual.ensures.1 in
    rw (p.1, p.2)
    (report-fault (Option OtherCounts) ReportLeft c.args.options.form c.args.options.top (table_of c.args.table.now) _ _
    c.in_err-not_ipv4.field-0.0 (c.in_err-not_ipv4.ensures.text t w))

pub returns-in_err-not_ipv4-clause-walks : goal.returns-in_err-not_ipv4-clause-walks
returns-in_err-not_ipv4-clause-walks g c =
    let p = err_from_is_err_and c.from_residual.result c.from_residual.ensures.1 in
    rw (p.1, p.2)
    (walks-fault (Option OtherCounts) ReportLeft _ _ c.in_err-not_ipv4.field-0.0
    c.in_err-not_ipv4.ensures.walks)

pub returns-clause-left : goal.returns-clause-left
returns-clause-left g c = λ t. record {
  cuts =
      c.cuts.ensures
      ∙ took-cuts (table_of c.args.table.now) (table_of c.write_table.new.table) c.in_ok-not_ipv4.ensures.took t;
  networks = c.in_ok-not_ipv4.ensures.counts t;
}
