use Rattle.std.proofs.Common.{arith}
use Rattle.std.proofs.lemmas.Result.{err_from_is_err_and}
use Rattle.cap_talks.proofs.Reporting.{Reporting-begin, Reporting-more, TakesAll-end, TakesAll-fault}
use Rattle.cap_talks.specs.inner.table.TableView.{table_of}
use Rattle.cap_talks.proofs.talks.reports.take_all.Goals as goal

pub loop-init : goal.loop-init
loop-init g c = Reporting-begin (table_of c.args.table.now)

pub returns-in_err-step-clause-takes : goal.returns-in_err-step-clause-takes
returns-in_err-step-clause-takes g c =
    let p = err_from_is_err_and c.from_residual.result c.from_residual.ensures.1 in
    rw (p.1, p.2) (TakesAll-fault (Unit {0}) _ _ _ c.in_err-step.field-0.0 c.loop.invariant c.in_err-step.ensures.step)

pub returns-in_err-step-clause-walks : goal.returns-in_err-step-clause-walks
returns-in_err-step-clause-walks g c = grind arith

pub loop-preserved : goal.loop-preserved
loop-preserved g c =
    Reporting-more _ _ _ c.in_ok-step.field-0 c.loop.invariant c.in_ok-step.ensures.keeps c.in_ok-step.ensures.step
    c.in-Took.is

pub returns-clause-takes : goal.returns-clause-takes
returns-clause-takes g c =
    TakesAll-end _ _ _ c.in_ok-step.field-0 c.loop.invariant c.in_ok-step.ensures.keeps c.in_ok-step.ensures.step
    c.in_default.is

pub returns-clause-walks : goal.returns-clause-walks
returns-clause-walks g c = grind arith
