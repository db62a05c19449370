use Rattle.std.proofs.Common.{◌≡◌, length}
use Rattle.cap_bytes.proofs.Putting.{Putting}
use Rattle.cap_commands.specs.Skipping.{left_out_lines}
use Rattle.cap_commands.proofs.skipping.put_left_out.Given as goal

-- the lines before that of the next file are written, and those of the others are to be
abbrev pub invariant-loop-refusal : goal.invariant-loop-refusal
invariant-loop-refusal g l =
    let old = l.fn.writer in
    let new = l.writer in
    Putting (record {
      told = g.W.Sink.tells_held old;
      held = g.W.Sink.held old;
      failed = g.W.Device.has_failed old;
      can_fail = g.W.Device.can_fail old;
    })
    (record {
      told = g.W.Sink.tells_held new;
      held = g.W.Sink.held new;
      failed = g.W.Device.has_failed new;
      can_fail = g.W.Device.can_fail new;
    })
    (left_out_lines l.fn.form l.fn.refusals) (left_out_lines l.fn.form l.rest)
    × (g.W.Device.has_failed new ≡ g.W.Device.has_failed old)

abbrev pub decreases-loop-refusal : goal.decreases-loop-refusal
decreases-loop-refusal g l = length l.rest
