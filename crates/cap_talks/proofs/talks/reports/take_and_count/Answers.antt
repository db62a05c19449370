use Rattle.std.proofs.lemmas.Result.{err_from_is_err_and}
use Rattle.cap_talks.specs.inner.table.TableView.{table_of}
use Rattle.cap_talks.specs.declared.table.others.OtherCounts.{OtherCounts}
use Rattle.cap_talks.proofs.CountedNetworks.{CountsSoFar-begin, CountsSoFar-end, CountsSoFar-looked, CountsSoFar-more}
use Rattle.cap_talks.proofs.CountedNetworks.{counts-few}
use Rattle.cap_talks.proofs.Reporting.{TakesAll-end, TakesAll-fault}
use Rattle.cap_talks.proofs.talks.reports.take_and_count.Goals as goal

pub loop-network-init : goal.loop-network-init
loop-network-init g c = CountsSoFar-begin (table_of c.args.table.now)

pub returns-in_err-network-clause-takes : goal.returns-in_err-network-clause-takes
returns-in_err-network-clause-takes g c =
    let p = err_from_is_err_and c.from_residual.result c.from_residual.ensures.1 in
    rw (p.1, p.2)
    (TakesAll-fault OtherCounts _ _ _ c.in_err-network.field-0.0 c.loop-network.invariant.so_far
    c.in_err-network.ensures.sees)

pub returns-in_err-step-clause-takes : goal.returns-in_err-step-clause-takes
returns-in_err-step-clause-takes g c =
    let p = err_from_is_err_and c.from_residual-in_err-step.result c.from_residual-in_err-step.ensures.1 in
    let mid = CountsSoFar-looked c.in_ok-network.network _ _ _ c.loop-network.counts c.loop-network.invariant
    c.in_ok-network.ensures.keeps c.in_ok-network.ensures.sees in
    rw (p.1, p.2)
    (TakesAll-fault OtherCounts _ _ _ c.in_err-step.field-0.0 mid.so_far c.in_err-step.ensures.step)

pub with_network-counts-requires : goal.with_network-counts-requires
with_network-counts-requires g c =
    let mid = CountsSoFar-looked c.in_ok-network.network _ _ _ c.loop-network.counts c.loop-network.invariant
    c.in_ok-network.ensures.keeps c.in_ok-network.ensures.sees in
    record {
      few =
          counts-few (table_of c.args.table.now) (table_of c.peek_network.new.self) c.loop-network.counts mid
          c.requires.stands c.peek_network.new.self.places;
    }

pub loop-network-preserved : goal.loop-network-preserved
loop-network-preserved g c =
    let mid = CountsSoFar-looked c.in_ok-network.network _ _ _ c.loop-network.counts c.loop-network.invariant
    c.in_ok-network.ensures.keeps c.in_ok-network.ensures.sees in
    rw c.with_network-counts.ensures
    (CountsSoFar-more c.in_ok-network.network _ _ _ c.loop-network.counts c.in_ok-step.field-0 mid
    c.in_ok-network.ensures.sees.known c.in_ok-step.ensures.keeps c.in_ok-step.ensures.again
    c.in_ok-step.ensures.step c.in-Took.is)

pub returns-in-Done-clause-takes : goal.returns-in-Done-clause-takes
returns-in-Done-clause-takes g c =
    let mid = CountsSoFar-looked c.in_ok-network.network _ _ _ c.loop-network.counts c.loop-network.invariant
    c.in_ok-network.ensures.keeps c.in_ok-network.ensures.sees in
    TakesAll-end _ _ _ c.in_ok-step.field-0 mid.so_far c.in_ok-step.ensures.keeps c.in_ok-step.ensures.step
    c.in-Done.is

pub returns-in-Done-clause-counts : goal.returns-in-Done-clause-counts
returns-in-Done-clause-counts g c =
    let mid = CountsSoFar-looked c.in_ok-network.network _ _ _ c.loop-network.counts c.loop-network.invariant
    c.in_ok-network.ensures.keeps c.in_ok-network.ensures.sees in
    CountsSoFar-end _ _ _ c.loop-network.counts c.in_ok-step.field-0 mid c.in_ok-step.ensures.step c.in-Done.is
