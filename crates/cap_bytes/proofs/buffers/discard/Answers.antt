use Rattle.std.proofs.Common.{◌≤◌, refl, take, length, length-take-le, zero-add, rules, arith}
use Rattle.cap_bytes.proofs.Lists.{length-slice_range}
use Rattle.cap_bytes.specs.inner.SourceState.{source_of}
use Rattle.cap_bytes.proofs.Reading.{Dropping-more, Dropping-last}
use Rattle.cap_bytes.proofs.buffers.discard.Goals as goal

pub returns-in-Ok-clause-outcome : goal.returns-in-Ok-clause-outcome
returns-in-Ok-clause-outcome g c =
    let source = source_of
    (record {
      has_failed = g.R.Device.has_failed;
      can_fail = g.R.Device.can_fail;
      tells_coming = g.R.Source.tells_coming;
      coming = g.R.Source.coming;
      most = g.R.Source.most;
    }) in
    let within : c.in-Ok.count ≤ length c.take_more.new.buffer = omega (arith, c.in-Ok.ensures.reads.0) in
    let last = Dropping-last c.args.n c.loop-left.left c.in-Ok.count (source c.args.reader.now)
    (source c.loop-left.reader)
    (source c.take_more.new.reader) c.take_more.new.buffer within c.if-left-count.true c.loop-left.invariant
    (rw zero-add at c.in-Ok.ensures.reads.1) in
    (refl, search rules, last.0, last.1, grind (arith, length-slice_range))

pub loop-left-preserved : goal.loop-left-preserved
loop-left-preserved g c =
    let source = source_of
    (record {
      has_failed = g.R.Device.has_failed;
      can_fail = g.R.Device.can_fail;
      tells_coming = g.R.Source.tells_coming;
      coming = g.R.Source.coming;
      most = g.R.Source.most;
    }) in
    let within : c.in-Ok.count ≤ length c.take_more.new.buffer = omega (arith, c.in-Ok.ensures.reads.0) in
    Dropping-more c.args.n c.loop-left.left c.in-Ok.count (source c.args.reader.now) (source c.loop-left.reader)
    (source c.take_more.new.reader) (take c.in-Ok.count c.take_more.new.buffer)
    (length-take-le c.in-Ok.count c.take_more.new.buffer within) (omega arith) c.loop-left.invariant
    (rw zero-add at c.in-Ok.ensures.reads.1) (search rules)
