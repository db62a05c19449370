use Rattle.std.proofs.Common.{◌≡◌, ◌+◌, length, map}
use Rattle.cap_bytes.proofs.Putting.{Putting}
use Rattle.cap_tool.specs.Cuts.{cut_lines}
use Rattle.cap_tool.proofs.cuts.put_cuts.Given as goal

-- the lines before that of the next file are written, and those of the others are to be
abbrev pub invariant-loop-cut : goal.invariant-loop-cut
invariant-loop-cut g l =
    let old = l.fn.writer in
    let new = l.writer in
    let paths = map (λ p. p.now) l.fn.paths in
    Putting (record {
      told = g.W.Sink.tells_held old;
      held = g.W.Sink.held old;
      failed = g.W.Device.has_failed old;
      can_fail = g.W.Device.can_fail old;
    })
    (record {
      told = g.W.Sink.tells_held new;
      held = g.W.Sink.held new;
      failed = g.W.Device.has_failed new;
      can_fail = g.W.Device.can_fail new;
    })
    (cut_lines l.fn.form paths 1 l.fn.cuts) (cut_lines l.fn.form paths l.file l.rest)
    × (g.W.Device.has_failed new ≡ g.W.Device.has_failed old)
    × (l.file + length l.rest ≡ 33)

abbrev pub decreases-loop-cut : goal.decreases-loop-cut
decreases-loop-cut g l = length l.rest
