use Rattle.std.proofs.Common.{◌<◌, length, arith}
use Rattle.cap_talks.proofs.Ranking.{ranked-more}
use Rattle.cap_talks.proofs.table.top.rank_all.Goals as goal

pub loop-place-preserved : goal.loop-place-preserved
loop-place-preserved c =
    let rows = c.args.talks.now.rows in
    let within : c.loop-place.place < length rows =
    omega (arith, c.loop-place-test.true, c.len-place-end.ensures.value) in
    rw c.in_ok-push.ensures.items
    (ranked-more rows c.loop-place.ranked.items _ within c.bytes_at-bytes.ensures c.loop-place.invariant)
