use Rattle.std.proofs.Common.{Err, Ok, Option, refl, rules}
use Rattle.std.proofs.lemmas.Result.{err_from_is_err_and}
use Rattle.cap_talks.specs.inner.table.TableView.{table_of}
use Rattle.cap_talks.specs.declared.table.others.OtherCounts.{OtherCounts}
use Rattle.cap_talks.proofs.Headline.{report-fault, tells-report, tells-nothing, walks-fault, walks-found}
use Rattle.cap_talks.proofs.Headline.{walks-written, writer-same}
use Rattle.cap_talks.proofs.Reporting.{memory-unless, taken-memory}
use Rattle.cap_talks.proofs.talks.reports.write_table.Goals as goal

pub returns-in_err-others-clause-text : goal.returns-in_err-others-clause-text
returns-in_err-others-clause-text g c = λ t w.
    let p = err_from_is_err_and c.from_residual.result c.from_residual.ensures.1 in
    rw (p.1, p.2)
    (tells-nothing (Option OtherCounts) c.args.options.form c.args.options.top (table_of c.args.table.now)
    (table_of c.take_packets.new.table)
    (g.W.Sink.held c.args.writer.now) c.in_err-others.field-0.0 c.in_err-others.ensures.takes t c.requires.stands)

pub returns-in_err-others-clause-writer : goal.returns-in_err-others-clause-writer
returns-in_err-others-clause-writer g c =
    let p = err_from_is_err_and c.from_residual.result c.from_residual.ensures.1 in
    rw (p.1, p.2)
    (writer-same (Option OtherCounts) _ (table_of c.args.table.now) (table_of c.take_packets.new.table)
    c.in_err-others.field-0.0 c.in_err-others.ensures.takes)

pub returns-in_err-others-clause-memory : goal.returns-in_err-others-clause-memory
returns-in_err-others-clause-memory g c = λ none.
    let p = err_from_is_err_and c.from_residual.result c.from_residual.ensures.1 in
    rw (p.1, p.2)
    (taken-memory (Option OtherCounts) (table_of c.args.table.now) (table_of c.take_packets.new.table)
    c.in_err-others.field-0.0 c.in_err-others.ensures.takes)

pub returns-in_err-shown-clause-text : goal.returns-in_err-shown-clause-text
returns-in_err-shown-clause-text g c = λ t w.
    let p = err_from_is_err_and c.from_residual-in_err-shown.result c.from_residual-in_err-shown.ensures.1 in
    rw (p.1, p.2, c.in_err-shown.ensures.fault) refl

pub returns-in_err-shown-clause-writer : goal.returns-in_err-shown-clause-writer
returns-in_err-shown-clause-writer g c =
    let p = err_from_is_err_and c.from_residual-in_err-shown.result c.from_residual-in_err-shown.ensures.1 in
    rw (p.1, p.2, c.in_err-shown.ensures.fault) (search rules)

pub returns-in_err-shown-clause-walks : goal.returns-in_err-shown-clause-walks
returns-in_err-shown-clause-walks g c =
    let p = err_from_is_err_and c.from_residual-in_err-shown.result c.from_residual-in_err-shown.ensures.1 in
    rw (p.1, p.2)
    (walks-found (Option OtherCounts) _ _ c.in_ok-others.others c.in_err-shown.field-0.0 c.in_ok-others.ensures.walks
    c.in_err-shown.ensures.fault)

pub returns-in_err-shown-clause-memory : goal.returns-in_err-shown-clause-memory
returns-in_err-shown-clause-memory g c = λ none.
    cc (c.in_err-shown.ensures.all none, c.in_err-shown.is)

pub returns-in_err-write_in-clause-text : goal.returns-in_err-write_in-clause-text
returns-in_err-write_in-clause-text g c = λ t w.
    let p = err_from_is_err_and c.from_residual-in_err-write_in.result c.from_residual-in_err-write_in.ensures.1 in
    rw (p.1, p.2)
    (report-fault (Unit {0}) (Option OtherCounts) c.args.options.form c.args.options.top (table_of c.args.table.now)
    (g.W.Sink.held c.args.writer.now) (g.W.Sink.held c.write_in.new.writer) c.in_err-write_in.field-0.0
    (tells-report c.args.options.form c.args.options.top (table_of c.args.table.now)
    (table_of c.take_packets.new.table)
    (g.W.Sink.held c.args.writer.now) (g.W.Sink.held c.write_in.new.writer) (Err c.in_err-write_in.field-0.0) t
    c.requires.stands c.in_ok-others.ensures.takes c.in_err-write_in.ensures.fault
    (λ xs stands. c.in_err-write_in.ensures.text xs _ stands c.in_ok-shown.ensures.shows w)))

pub returns-clause-text : goal.returns-clause-text
returns-clause-text g c = λ t w.
    tells-report c.args.options.form c.args.options.top (table_of c.args.table.now)
    (table_of c.take_packets.new.table)
    (g.W.Sink.held c.args.writer.now) (g.W.Sink.held c.write_in.new.writer) (Ok c.in_ok-write_in.field-0) t
    c.requires.stands c.in_ok-others.ensures.takes c.in_ok-write_in.ensures.fault
    (λ xs stands. c.in_ok-write_in.ensures.text xs _ stands c.in_ok-shown.ensures.shows w)

pub returns-in_err-write_in-clause-walks : goal.returns-in_err-write_in-clause-walks
returns-in_err-write_in-clause-walks g c =
    let p = err_from_is_err_and c.from_residual-in_err-write_in.result c.from_residual-in_err-write_in.ensures.1 in
    rw (p.1, p.2)
    (walks-fault (Unit {0}) (Option OtherCounts) _ _ c.in_err-write_in.field-0.0
    (walks-written _ _ (Err c.in_err-write_in.field-0.0) c.in_ok-others.ensures.walks c.in_err-write_in.ensures.fault))

pub returns-in_err-write_in-clause-memory : goal.returns-in_err-write_in-clause-memory
returns-in_err-write_in-clause-memory g c = λ none.
    let p = err_from_is_err_and c.from_residual-in_err-write_in.result c.from_residual-in_err-write_in.ensures.1 in
    rw (p.1, p.2) (memory-unless {A = Option OtherCounts} (Err c.in_err-write_in.field-0.0) _
    c.in_err-write_in.ensures.fault)
