use Rattle.std.proofs.Common.{ap}
use Rattle.cap_write.proofs.Forming.{OnOk-map, Prints-numbered, after-numbered}
use Rattle.cap_write.specs.inner.Forms.{form_state}
use Rattle.cap_write.specs.inner.Interfaces.{origins_of}
use Rattle.cap_write.proofs.forms.put_in.Goals as goal

pub returns-in-Pcapng-clause-text : goal.returns-in-Pcapng-clause-text
returns-in-Pcapng-clause-text g c = λ w.
    Prints-numbered c.args.order (form_state c.args.form.now) (origins_of c.in-Pcapng.origins) c.args.meta.now
    c.args.frame.now
    (g.W.Sink.held c.args.writer.now) (g.W.Sink.held c.put_one.new.writer)
    c.put_one.result (ap form_state c.in-Pcapng.is) (c.put_one.ensures.text w)

pub returns-in-Pcapng-clause-form : goal.returns-in-Pcapng-clause-form
returns-in-Pcapng-clause-form g c =
    OnOk-map c.put_one.result _ _
    (λ h. after-numbered (form_state c.args.form.now) (origins_of c.in-Pcapng.origins)
    (origins_of c.put_one.new.origins)
    c.args.meta.now
    c.args.frame.now (ap form_state c.in-Pcapng.is) h)
    c.put_one.ensures.origins
