use Rattle.std.proofs.Common.{◌≡◌, ◌≤◌, length, map, option_map, IsTrue}
use Rattle.cap_commands.specs.Jobs.{form_by, tail_of}
use Rattle.cap_tool.proofs.Judging.{AreJudged}
use Rattle.cap_tool.specs.DigestLines.{entry_of}
use Rattle.cap_tool.proofs.verify.verify_lines.Given as goal

-- what is said of the lines so far is written
abbrev pub invariant-loop-place : goal.invariant-loop-place
invariant-loop-place g l = record {
  within : l.place ≤ length l.lines;
  failed : g.W.Device.has_failed l.writer ≡ g.W.Device.has_failed l.fn.writer;
  told : IsTrue (g.W.Sink.tells_held l.fn.writer) → IsTrue (g.W.Sink.tells_held l.writer);
  cannot : IsTrue (g.W.Device.can_fail l.writer) → IsTrue (g.W.Device.can_fail l.fn.writer);
  judged : IsTrue (g.W.Sink.tells_held l.fn.writer)
      → AreJudged (g.O.Opener.gives l.opener) (option_map (λ s. record {
        told = g.O.Reader.Source.tells_coming s;
        bytes = g.O.Reader.Source.coming s;
        can_fail = g.O.Reader.Device.can_fail s;
      })) (tail_of l.job.allow_cut) (form_by l.job.json l.job.time) (map entry_of l.lines) l.place l.found
      (g.W.Sink.held l.fn.writer) (g.W.Sink.held l.writer);
}
