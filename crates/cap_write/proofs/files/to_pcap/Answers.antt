use Rattle.std.proofs.Common.{arith, ◌∙◌, ap, Err}
use Rattle.cap_source.proofs.Onward.{Keeps-trans}
use Rattle.std.proofs.lemmas.Result.{err_from_is_err_and}
use Rattle.cap_source.specs.inner.Captures.{capture_feed, capture_first}
use Rattle.cap_write.specs.Pcap.{first_in_unit, pcap_bytes}
use Rattle.cap_write.proofs.Starting.{Prints-unread, Writer-unread, Walks-unread, Walks-first, Ends-first}
use Rattle.cap_write.proofs.Starting.{memory-unread}
use Rattle.cap_write.proofs.files.to_pcap.Goals as goal

pub returns-clause-walks : goal.returns-clause-walks
returns-clause-walks g c =
    let first = c.in_ok-first.ensures.answer in
    Walks-first _ _ _ first.0 _ first.1 c.in_ok-first.ensures.keeps (grind arith)

pub returns-clause-endings : goal.returns-clause-endings
returns-clause-endings g c =
    Ends-first (capture_feed c.args.capture.now) (capture_feed c.first.new.self)
    (capture_feed c.put_pcap.new.feed) c.put_pcap.result c.in_ok-first.ensures.keeps
    (λ t. (c.in_ok-first.ensures.items t).0) c.put_pcap.ensures.endings

pub returns-clause-keeps : goal.returns-clause-keeps
returns-clause-keeps g c = search (Keeps-trans, c.in_ok-first.ensures.keeps, c.put_pcap.ensures.keeps)

pub returns-in_err-first-clause-text : goal.returns-in_err-first-clause-text
returns-in_err-first-clause-text g c =
    let p = err_from_is_err_and c.from_residual.result c.from_residual.ensures.1 in
    λ t w. Prints-unread _ _ _ _ (pcap_bytes c.args.order
    (first_in_unit c.args.unit (capture_first c.args.capture.now))
    (capture_feed c.args.capture.now).items) _ (g.W.Sink.held c.args.writer.now) c.in_err-first.ensures.answer (p.1
    ∙ ap Err p.2)

pub returns-in_err-first-clause-writer : goal.returns-in_err-first-clause-writer
returns-in_err-first-clause-writer g c =
    let p = err_from_is_err_and c.from_residual.result c.from_residual.ensures.1 in
    rw (p.1, p.2) (Writer-unread _ _ _ _ c.in_err-first.ensures.answer)

pub returns-in_err-first-clause-walks : goal.returns-in_err-first-clause-walks
returns-in_err-first-clause-walks g c =
    let p = err_from_is_err_and c.from_residual.result c.from_residual.ensures.1 in
    rw (p.1, p.2) (Walks-unread _ _ _ c.in_err-first.ensures.answer)

pub returns-in_err-first-clause-memory : goal.returns-in_err-first-clause-memory
returns-in_err-first-clause-memory g c =
    let p = err_from_is_err_and c.from_residual.result c.from_residual.ensures.1 in
    rw (p.1, p.2) (memory-unread _ _ _ c.in_err-first.ensures.answer)

pub returns-clause-memory : goal.returns-clause-memory
returns-clause-memory g c = grind arith
