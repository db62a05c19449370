use Rattle.std.proofs.Common.{ap}
use Rattle.cap_write.proofs.Forming.{OnOk-map, Prints-numbered, after-numbered}
use Rattle.capt_c.specs.Writing.{described, shared_in}
use Rattle.capt_c.proofs.packet_writers.WriterForm.put.Goals as goal

pub returns-in-Pcapng-clause-text : goal.returns-in-Pcapng-clause-text
returns-in-Pcapng-clause-text c =
    Prints-numbered c.args.order (described c.args.self.now) (shared_in c.in-Pcapng.interfaces) c.args.meta.now
    c.args.frame.now _ _ c.put_numbered.result (ap described c.in-Pcapng.is) c.put_numbered.ensures.text

pub returns-in-Pcapng-clause-form : goal.returns-in-Pcapng-clause-form
returns-in-Pcapng-clause-form c =
    OnOk-map c.put_numbered.result _ _
    (λ h. after-numbered (described c.args.self.now) (shared_in c.in-Pcapng.interfaces)
    (shared_in c.put_numbered.new.interfaces) c.args.meta.now c.args.frame.now (ap described c.in-Pcapng.is) h)
    c.put_numbered.ensures.origins
