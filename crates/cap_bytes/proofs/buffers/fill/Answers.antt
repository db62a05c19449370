use Rattle.cap_bytes.proofs.Reading.{Filled-none, Filled-more}
use Rattle.cap_bytes.proofs.buffers.fill.Goals as goal

pub loop-count-init : goal.loop-count-init
loop-count-init g c = Filled-none _ c.args.buffer.now c.args.end c.args.n c.requires.some c.requires.room

pub loop-count-preserved : goal.loop-count-preserved
loop-count-preserved g c =
    Filled-more _ _ _ _ _ _ c.args.end c.loop-count.count c.in-Ok.more _ _ c.args.n c.loop-count.invariant
    c.loop-count-test.true c.in-Ok.ensures.few c.in-Ok.ensures.reads c.in-Ok.ensures.failed
