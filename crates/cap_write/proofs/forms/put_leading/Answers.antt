use Rattle.std.proofs.Common.{◌∷◌, [], Some, None, Err, refl}
use Rattle.std.proofs.lemmas.Result.{err_from_is_err_and}
use Rattle.cap_bytes.proofs.Putting.{Prints-head, Prints-behind}
use Rattle.cap_pcap.specs.Grammar.{header_bytes}
use Rattle.cap_source.specs.Feed.{packet}
use Rattle.cap_write.proofs.Forming.{OnOk-map, Prints-headed, Prints-untimed, Prints-leading, after-leading}
use Rattle.cap_write.specs.inner.Forms.{headed}
use Rattle.cap_write.specs.Pcap.{header_of, in_unit, records_bytes}
use Rattle.cap_write.specs.PcapRun.{run_refusal}
use Rattle.cap_write.proofs.forms.put_leading.Goals as goal

pub returns-in_err-units_of-clause-text : goal.returns-in_err-units_of-clause-text
returns-in_err-units_of-clause-text g c = λ w.
    let p = err_from_is_err_and c.from_residual.result c.from_residual.ensures.1 in
    rw (p.1, p.2) (Prints-untimed c.args.order (headed c.args.unit None) c.args.meta.now c.args.frame.now []
    (g.W.Sink.held c.args.writer.now) c.in_err-units_of.field-0.0 c.in_err-units_of.ensures.answer)

pub returns-in_err-put_header-clause-text : goal.returns-in_err-put_header-clause-text
returns-in_err-put_header-clause-text g c = λ w.
    let p = err_from_is_err_and c.from_residual-in_err-put_header.result c.from_residual-in_err-put_header.ensures.1 in
    let meta = c.args.meta.now in
    let first = in_unit c.args.unit meta.interface in
    let items = packet meta c.args.frame.now ∷ [] in
    rw (p.1, p.2)
    (Prints-leading c.args.unit c.args.order meta c.args.frame.now _ (g.W.Sink.held c.args.writer.now)
    (g.W.Sink.held c.put_header.new.writer) (Err c.in_err-put_header.field-0.0) c.in_ok-units_of.ensures.answer
    (Prints-head (run_refusal c.args.unit items) (g.W.Sink.held c.args.writer.now)
    (g.W.Sink.held c.put_header.new.writer)
    (header_bytes (header_of c.args.order first))
    (records_bytes c.args.order first items) c.in_err-put_header.field-0.0 c.in_err-put_header.ensures.fault
    (rw (c.header_of.ensures, c.in_unit-first.ensures) at (c.in_err-put_header.ensures.bytes w))))

pub returns-clause-text : goal.returns-clause-text
returns-clause-text g c = λ w.
    let meta = c.args.meta.now in
    let first = in_unit c.args.unit meta.interface in
    let items = packet meta c.args.frame.now ∷ [] in
    Prints-leading c.args.unit c.args.order meta c.args.frame.now _ _ _ _ c.in_ok-units_of.ensures.answer
    (Prints-behind (run_refusal c.args.unit items) (g.W.Sink.held c.args.writer.now)
    (g.W.Sink.held c.put_header.new.writer)
    (g.W.Sink.held c.put_after_header.new.writer)
    (header_bytes (header_of c.args.order first))
    (records_bytes c.args.order first items) c.put_after_header.result
    (rw (c.header_of.ensures, c.in_unit-first.ensures) at (c.in_ok-put_header.ensures.bytes w))
    (Prints-headed c.args.unit c.args.order (headed c.args.unit (Some first)) first meta c.args.frame.now _ _
    c.put_after_header.result refl
    (rw c.in_unit-first.ensures at (c.put_after_header.ensures.text (c.in_ok-put_header.ensures.writer.told w)))))

pub returns-clause-whole : goal.returns-clause-whole
returns-clause-whole g c = OnOk-map c.put_after_header.result _ _
    (λ none. after-leading c.args.unit c.args.meta.now c.args.frame.now none)
    (rw c.in_unit-first.ensures at c.put_after_header.ensures.whole)
