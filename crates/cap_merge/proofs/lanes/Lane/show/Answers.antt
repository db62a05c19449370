use Rattle.std.proofs.Common.{sym, ◌∙◌, rules}
use Rattle.cap_merge.proofs.Bounds.{learns-packet}
use Rattle.cap_merge.proofs.lanes.Lane.show.Goals as goal

pub packet-requires : goal.packet-requires
packet-requires g c = search rules

pub returns-then-try_peek_buffered-clause-shows : goal.returns-then-try_peek_buffered-clause-shows
returns-then-try_peek_buffered-clause-shows g c =
    let feed = g.F.PacketFeed.feed in
    learns-packet c.args.self.now.clock c.args.self.now.next c.time.result (feed c.args.feed.now)
    (feed c.try_peek_buffered.new.self) c.packet.result.now c.reach.new.clock
    (sym c.is_some.ensures ∙ c.if-is_some.false) c.if-try_peek_buffered.ensures.answer c.packet.ensures.packet
    c.reach.ensures.clock c.time.ensures.time
    c.time.ensures.bounded c.try_peek_buffered.ensures.keeps c.try_peek_buffered.ensures.items
