use Rattle.std.proofs.Common.{◌≡◌, length}
use Rattle.cap_bytes.proofs.Putting.{Putting}
use Rattle.cap_bytes.proofs.devices.Sink.give_all.Given as goal

-- what was written so far is a prefix of the bytes, and the rest is what is left of them
abbrev pub invariant-loop-rest : goal.invariant-loop-rest
invariant-loop-rest g l =
    let old = l.fn.self in
    let new = l.self in
    Putting (record {
      told = g.Self.Sink.tells_held old;
      held = g.Self.Sink.held old;
      failed = g.Self.Device.has_failed old;
      can_fail = g.Self.Device.can_fail old;
    })
    (record {
      told = g.Self.Sink.tells_held new;
      held = g.Self.Sink.held new;
      failed = g.Self.Device.has_failed new;
      can_fail = g.Self.Device.can_fail new;
    })
    l.fn.bytes l.rest
    × (g.Self.Device.has_failed new ≡ g.Self.Device.has_failed old)

abbrev pub decreases-loop-rest : goal.decreases-loop-rest
decreases-loop-rest g l = length l.rest
