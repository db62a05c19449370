use Rattle.std.proofs.Common.{refl}
use Rattle.cap_bytes.specs.declared.faults.Fault.TheVariants.{Refused}
use Rattle.cap_bytes.specs.declared.faults.Rule.TheVariants.{NoTime}
use Rattle.cap_write.proofs.Written.{Prints-untimed}
use Rattle.cap_write.specs.Numbering.{refusal_at}
use Rattle.capt_c.specs.Writing.{shared_in}
use Rattle.capt_c.proofs.packet_writers.put_numbered.Goals as goal

pub returns-in-None-clause-text : goal.returns-in-None-clause-text
returns-in-None-clause-text c =
    rw c.refused.ensures (Prints-untimed c.args.order (shared_in c.args.interfaces.now) c.args.meta.now
    c.args.frame.now _ (Refused (refusal_at c.args.meta.now NoTime)) (c.in-None.is, refl))
