use Rattle.std.proofs.Common.{refl, ◌∙◌}
use Rattle.capt_c.proofs.Standing.{fresh-file}
use Rattle.capt_c.proofs.packet_writers.front.Goals as goal

pub returns-in-Ok-clause-bytes : goal.returns-in-Ok-clause-bytes
returns-in-Ok-clause-bytes c =
    rw c.in-Pcapng.is (fresh-file c.args.order _ (c.into_bytes-in-Ok.ensures
    ∙ rw c.new-sink.ensures.held at (c.in-Ok.ensures.bytes refl)))
