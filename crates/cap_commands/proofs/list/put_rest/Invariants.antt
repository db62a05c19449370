use Rattle.std.proofs.Common.{◌≡◌, length}
use Rattle.cap_bytes.proofs.Putting.{Putting}
use Rattle.cap_commands.specs.inner.PacketParts.{packet_rest}
use Rattle.cap_commands.proofs.list.put_rest.Given as goal

-- the digits so far are written, and those of the rest are to be
abbrev pub invariant-loop-rest : goal.invariant-loop-rest
invariant-loop-rest g l =
    let old = l.fn.writer in
    let new = l.writer in
    Putting (record {
      told = g.W.Sink.tells_held old;
      held = g.W.Sink.held old;
      failed = g.W.Device.has_failed old;
      can_fail = g.W.Device.can_fail old;
    })
    (record {
      told = g.W.Sink.tells_held new;
      held = g.W.Sink.held new;
      failed = g.W.Device.has_failed new;
      can_fail = g.W.Device.can_fail new;
    })
    (packet_rest l.fn.form l.fn.behind l.fn.bytes) (packet_rest l.fn.form l.fn.behind l.rest)
    × (g.W.Device.has_failed new ≡ g.W.Device.has_failed old)

abbrev pub decreases-loop-rest : goal.decreases-loop-rest
decreases-loop-rest g l = length l.rest
