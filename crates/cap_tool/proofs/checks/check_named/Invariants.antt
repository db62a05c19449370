use Rattle.std.proofs.Common.{◌≡◌, ◌≤◌, length, map, IsTrue}
use Rattle.cap_tool.proofs.CheckedFiles.{AreNamed}
use Rattle.cap_commands.specs.Jobs.{form_by, line_by, tail_of}
use Rattle.cap_tool.proofs.checks.check_named.Given as goal

-- the files of the names so far are checked, and their lines are printed
abbrev pub invariant-loop-place : goal.invariant-loop-place
invariant-loop-place g l = record {
  within : l.place ≤ length l.names;
  failed : g.W.Device.has_failed l.writer ≡ g.W.Device.has_failed l.fn.writer;
  told : IsTrue (g.W.Sink.tells_held l.fn.writer) → IsTrue (g.W.Sink.tells_held l.writer);
  cannot : IsTrue (g.W.Device.can_fail l.writer) → IsTrue (g.W.Device.can_fail l.fn.writer);
  printed : IsTrue (g.W.Sink.tells_held l.fn.writer)
      → AreNamed (g.O.Opener.gives l.opener) (λ s. record {
        told = g.O.Reader.Source.tells_coming s;
        bytes = g.O.Reader.Source.coming s;
        can_fail = g.O.Reader.Device.can_fail s;
      }) (line_by l.job.task l.job.digests) (form_by l.job.json l.job.time) (tail_of l.job.allow_cut) l.job.names
      (map (λ n. n.now) l.names) l.place l.are_whole (g.W.Sink.held l.fn.writer) (g.W.Sink.held l.writer);
}
