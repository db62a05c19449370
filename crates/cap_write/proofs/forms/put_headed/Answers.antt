use Rattle.std.proofs.Common.{ap}
use Rattle.cap_write.proofs.Forming.{OnOk-map, Prints-headed, after-headed}
use Rattle.cap_write.specs.inner.Forms.{headed}
use Rattle.cap_write.proofs.forms.put_headed.Goals as goal

pub returns-in-Some-clause-text : goal.returns-in-Some-clause-text
returns-in-Some-clause-text g c = λ w.
    Prints-headed c.args.unit c.args.order (headed c.args.unit c.args.first.now) c.in-Some.header c.args.meta.now
    c.args.frame.now
    (g.W.Sink.held c.args.writer.now) (g.W.Sink.held c.put_after_header.new.writer)
    c.put_after_header.result (ap (headed c.args.unit) c.in-Some.is) (c.put_after_header.ensures.text w)

pub returns-in-Some-clause-form : goal.returns-in-Some-clause-form
returns-in-Some-clause-form g c =
    OnOk-map c.put_after_header.result _ _ (λ none. after-headed c.args.unit
    (headed c.args.unit c.args.first.now) c.in-Some.header c.args.meta.now c.args.frame.now
    (ap (headed c.args.unit) c.in-Some.is) none)
    c.put_after_header.ensures.whole
