use Rattle.std.proofs.Common.{rules}
use Rattle.cap_bytes.proofs.Putting.{Putting-more}
use Rattle.cap_bytes.proofs.devices.Sink.give_all.Goals as goal

pub loop-rest-preserved : goal.loop-rest-preserved
loop-rest-preserved g c =
    let e = c.in_ok-count.ensures in (
      rw c.split_at.ensures.back
          (Putting-more _ _ _ _ _ c.in_ok-count.count c.loop-rest.invariant.0 e.count e.bytes e.told e.cannot),
      search rules,
    )
