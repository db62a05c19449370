use Rattle.std.proofs.Common.{◌-◌, length, take}
use Rattle.cap_bytes.specs.inner.SourceState.{source_of}
use Rattle.cap_bytes.proofs.Reading.{Filled}
use Rattle.cap_bytes.proofs.buffers.fill.Given as goal

-- what stood in the buffer stands there still, and what came comes after it
abbrev pub invariant-loop-count : goal.invariant-loop-count
invariant-loop-count g l =
    let source = source_of
    (record {
      has_failed = g.R.Device.has_failed;
      can_fail = g.R.Device.can_fail;
      tells_coming = g.R.Source.tells_coming;
      coming = g.R.Source.coming;
      most = g.R.Source.most;
    }) in
    Filled (source l.fn.reader) (source l.reader) (take l.end l.fn.buffer) (take l.count l.buffer) l.end l.count
    (length l.buffer) l.n

abbrev pub decreases-loop-count : goal.decreases-loop-count
decreases-loop-count g l = l.n - l.count
