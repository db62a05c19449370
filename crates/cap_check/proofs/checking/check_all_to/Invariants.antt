use Rattle.std.proofs.Common.{◌≡◌, length, map, take, IsTrue, Some}
use Rattle.cap_check.proofs.Following.{ArePrinted}
use Rattle.cap_check.specs.CheckText.{no_names}
use Rattle.cap_check.proofs.checking.check_all_to.Given as goal

-- the files so far are checked, and their lines are printed
abbrev pub invariant-loop-source : goal.invariant-loop-source
invariant-loop-source g l = record {
  number : l.files ≡ length l.yielded;
  failed : g.W.Device.has_failed l.writer ≡ g.W.Device.has_failed l.fn.writer;
  told : IsTrue (g.W.Sink.tells_held l.fn.writer) → IsTrue (g.W.Sink.tells_held l.writer);
  cannot : IsTrue (g.W.Device.can_fail l.writer) → IsTrue (g.W.Device.can_fail l.fn.writer);
  printed : IsTrue (g.W.Sink.tells_held l.fn.writer) → ArePrinted l.which l.form l.tail no_names
      (take (length l.yielded) (map (λ s. Some (record {
        told = g.R.Source.tells_coming s;
        bytes = g.R.Source.coming s;
        can_fail = g.R.Device.can_fail s;
      })) l.fn.sources.items))
      l.are_whole (g.W.Sink.held l.fn.writer) (g.W.Sink.held l.writer);
}
