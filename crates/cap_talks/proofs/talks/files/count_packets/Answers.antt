use Rattle.std.proofs.Common.{arith, rules}
use Rattle.std.proofs.lemmas.Result.{err_from_is_err_and}
use Rattle.cap_source.proofs.Growing.{memory-found}
use Rattle.cap_talks.proofs.Counting.{counted-in_order}
use Rattle.cap_talks.proofs.CountedPackets.{found-packet, found-item, found-end, found-fault, counted-none}
use Rattle.cap_talks.proofs.CountedPackets.{counted-taken, counted-end, counted-fault}
use Rattle.cap_talks.proofs.talks.files.count_packets.Goals as goal

pub loop-feed-init : goal.loop-feed-init
loop-feed-init g c = counted-none (g.F.PacketFeed.feed c.args.feed.now) c.new-counts.result c.requires
    c.new-counts.ensures

pub take-requires-clause-order : goal.take-requires-clause-order
take-requires-clause-order g c = grind (arith, counted-in_order, c.loop-feed.invariant.counts_is)

pub returns-in_err-peek-clause-counts : goal.returns-in_err-peek-clause-counts
returns-in_err-peek-clause-counts g c = λ t.
    let p = err_from_is_err_and c.from_residual.result c.from_residual.ensures.1 in
    let mid = g.F.PacketFeed.feed c.loop-feed.feed in
    let shown = g.F.PacketFeed.feed c.peek.new.self in
    let e = c.in_err-peek.ensures in
    rw (p.1, p.2)
    (counted-fault c.in_err-peek.field-0.0 (g.F.PacketFeed.feed c.args.feed.now) mid shown shown
    c.loop-feed.counts c.loop-feed.invariant t
    (λ u. found-fault c.in_err-peek.field-0.0 mid shown (g.met.F.PacketFeed.lawful c.peek.new.self)
    (e.keeps.told u) (e.items u) e.answer))

pub loop-feed-preserved : goal.loop-feed-preserved
loop-feed-preserved g c =
    let mid = g.F.PacketFeed.feed c.loop-feed.feed in
    let shown = g.F.PacketFeed.feed c.peek.new.self in
    let meta = c.packet-meta.result.now in
    let e = c.in_ok-peek.ensures in
    counted-taken (g.F.PacketFeed.feed c.args.feed.now) mid shown
    (g.F.PacketFeed.feed c.pass.new.self) c.loop-feed.counts c.take.new.self meta c.loop-feed.invariant
    (found-packet mid shown meta (rw c.if-branch.true at e.answer) c.packet-meta.ensures.packet) e.keeps
    (λ t. found-item mid shown meta (g.met.F.PacketFeed.lawful c.peek.new.self) (e.keeps.told t)
    (e.items t) c.packet-meta.ensures.packet)
    c.pass.ensures.keeps c.pass.ensures.passes c.pass.ensures.passes.items c.pass.ensures.passes.endings
    (search rules) c.take.ensures.one_more

pub returns-clause-counts : goal.returns-clause-counts
returns-clause-counts g c = λ t.
    let mid = g.F.PacketFeed.feed c.loop-feed.feed in
    let shown = g.F.PacketFeed.feed c.peek.new.self in
    let e = c.in_ok-peek.ensures in
    counted-end (g.F.PacketFeed.feed c.args.feed.now) mid shown c.loop-feed.counts c.loop-feed.invariant t
    (λ u. found-end mid shown (g.met.F.PacketFeed.lawful c.peek.new.self) (e.keeps.told u) (e.items u)
    (rw c.if-branch.false at e.answer))

pub returns-in_err-peek-clause-memory : goal.returns-in_err-peek-clause-memory
returns-in_err-peek-clause-memory g c =
    let p = err_from_is_err_and c.from_residual.result c.from_residual.ensures.1 in
    rw (p.1, p.2) (memory-found c.in_err-peek.field-0.0 _ _ c.in_err-peek.ensures.answer)
