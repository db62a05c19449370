use Rattle.std.proofs.Common.{refl}
use Rattle.cap_bytes.specs.declared.faults.Fault.TheVariants as faults
use Rattle.capt_c.proofs.names.fault_of.Goals as goal

-- a status that is a fault's is no other status
pub returns-in-Some-clause-none : goal.returns-in-Some-clause-none
returns-in-Some-clause-none c =
    λ no. absurd (no (faults.Refused (record {
      offset = c.args.place.now.offset;
      file = c.args.place.now.file;
      rule = c.in-Some.rule;
    })) (c.if-status-eq-REFUSED.true, refl, refl, c.in-Some.ensures.some))

pub returns-then-status-eq-READ-clause-none : goal.returns-then-status-eq-READ-clause-none
returns-then-status-eq-READ-clause-none c =
    λ no. absurd (no (faults.Read c.args.place.now.file c.args.place.now.offset) (c.if-status-eq-READ.true, refl, refl))

pub returns-then-status-eq-WRITE-clause-none : goal.returns-then-status-eq-WRITE-clause-none
returns-then-status-eq-WRITE-clause-none c = λ no. absurd (no faults.Write c.if-status-eq-WRITE.true)

pub returns-then-status-eq-MEMORY-clause-none : goal.returns-then-status-eq-MEMORY-clause-none
returns-then-status-eq-MEMORY-clause-none c = λ no. absurd (no faults.Memory c.if-status-eq-MEMORY.true)
