use Rattle.cap_bytes.specs.inner.SourceState.{source_of}
use Rattle.cap_bytes.proofs.Reading.{Dropping}
use Rattle.cap_bytes.proofs.buffers.discard.Given as goal

-- what was read is dropped, and `left` bytes more are to be
abbrev pub invariant-loop-left : goal.invariant-loop-left
invariant-loop-left g l =
    let source = source_of
    (record {
      has_failed = g.R.Device.has_failed;
      can_fail = g.R.Device.can_fail;
      tells_coming = g.R.Source.tells_coming;
      coming = g.R.Source.coming;
      most = g.R.Source.most;
    }) in
    Dropping l.n l.left (source l.fn.reader) (source l.reader)

abbrev pub decreases-loop-left : goal.decreases-loop-left
decreases-loop-left g l = l.left
