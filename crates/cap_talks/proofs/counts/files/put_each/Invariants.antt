use Rattle.std.proofs.Common.{◌≡◌, ◌+◌, drop}
use Rattle.cap_bytes.proofs.Putting.{Putting}
use Rattle.cap_talks.specs.counts.FileLines.{counted_texts_in}
use Rattle.cap_talks.proofs.counts.files.put_each.Given as goal

-- the lines of the files so far are written
abbrev pub invariant-loop-place : goal.invariant-loop-place
invariant-loop-place g l = record {
  failed : g.W.Device.has_failed l.writer ≡ g.W.Device.has_failed l.fn.writer;
  putting :
      Putting
      (record {
        told = g.W.Sink.tells_held l.fn.writer;
        held = g.W.Sink.held l.fn.writer;
        failed = g.W.Device.has_failed l.fn.writer;
        can_fail = g.W.Device.can_fail l.fn.writer;
      })
      (record {
        told = g.W.Sink.tells_held l.writer;
        held = g.W.Sink.held l.writer;
        failed = g.W.Device.has_failed l.writer;
        can_fail = g.W.Device.can_fail l.writer;
      })
      (counted_texts_in l.form 1 l.counted) (counted_texts_in l.form (l.place + 1) (drop l.place l.counted));
}
