use Rattle.cap_commands.proofs.Divergence.{Prints-line}
use Rattle.cap_commands.proofs.diff.put_line.Goals as goal

pub returns-clause-text : goal.returns-clause-text
returns-clause-text g c = λ w.
    rw c.as_slice.ensures.value at (Prints-line _ _ _ c.put_all.result (c.put_all.ensures.bytes w)
    c.put_all.ensures.fault)
