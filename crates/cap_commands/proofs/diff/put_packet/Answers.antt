use Rattle.cap_commands.proofs.Divergence.{Prints-line}
use Rattle.cap_commands.proofs.diff.put_packet.Goals as goal

pub returns-then-shown-gt-MOST_SHOWN-clause-text : goal.returns-then-shown-gt-MOST_SHOWN-clause-text
returns-then-shown-gt-MOST_SHOWN-clause-text g c = λ w.
    Prints-line _ _ _ c.put_long_packet.result (c.put_long_packet.ensures.bytes w) c.put_long_packet.ensures.fault
