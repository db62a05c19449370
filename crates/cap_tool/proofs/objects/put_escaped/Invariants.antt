use Rattle.std.specs.Str.Iter.{chars_rest}
use Rattle.cap_tool.proofs.Escaping.{Escaping}
use Rattle.cap_tool.proofs.objects.put_escaped.Given as goal

-- what was written so far is the front of the word's string
abbrev pub invariant-loop-c : goal.invariant-loop-c
invariant-loop-c g l =
    let old = l.fn.writer in
    let new = l.writer in
    Escaping (record {
      told = g.W.Sink.tells_held old;
      held = g.W.Sink.held old;
      failed = g.W.Device.has_failed old;
      can_fail = g.W.Device.can_fail old;
    })
    (record {
      told = g.W.Sink.tells_held new;
      held = g.W.Sink.held new;
      failed = g.W.Device.has_failed new;
      can_fail = g.W.Device.can_fail new;
    })
    l.fn.text (chars_rest l.rest)
