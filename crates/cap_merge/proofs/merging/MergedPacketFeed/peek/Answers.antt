use Rattle.std.proofs.Common.{Ok, true, ◌∙◌}
use Rattle.cap_merge.specs.inner.Sound.{lawful-each, numbered-from}
use Rattle.cap_merge.specs.inner.View.{parts_of}
use Rattle.cap_merge.proofs.Peeking.{finds-all}
use Rattle.cap_merge.proofs.merging.MergedPacketFeed.peek.Goals as goal

pub returns-then-shows_first : goal.returns-then-shows_first
returns-then-shows_first g c =
    let m = c.args.self.now in
    let n = c.shows_first.new.self in
    let ps = parts_of m in
    let qs = parts_of n in
    let lawful = lawful-each g.F.PacketFeed.feed g.met.F.PacketFeed.lawful n.lanes.items n.feeds.items in
    let shows = rw c.if-shows_first.true at c.shows_first.ensures.shows in
    let h = finds-all ps qs (Ok true)
    (numbered-from g.F.PacketFeed.feed m.lanes.items m.feeds.items m.kept.alike m.kept.numbered)
    shows.0 shows.1 lawful in
    record {
      answer = h.answer;
      keeps = h.keeps;
      items = h.items;
      asks = h.asks;
      run = h.run;
      clocks = h.clocks;
      backward = c.shows_first.ensures.backward;
      counts = c.shows_first.ensures.counts;
    }

pub returns : goal.returns
returns g c =
    let m = c.args.self.now in
    let n = c.find.new.self in
    let ps = parts_of m in
    let qs = parts_of n in
    let lawful = lawful-each g.F.PacketFeed.feed g.met.F.PacketFeed.lawful n.lanes.items n.feeds.items in
    let asks = (rw c.if-shows_first.false at c.shows_first.ensures.shows) c.find.result qs c.find.ensures.asks in
    let h = finds-all ps qs c.find.result
    (numbered-from g.F.PacketFeed.feed m.lanes.items m.feeds.items m.kept.alike m.kept.numbered) asks
    c.find.ensures.next lawful in
    record {
      answer = h.answer;
      keeps = h.keeps;
      items = h.items;
      asks = h.asks;
      run = h.run;
      clocks = h.clocks;
      backward = c.find.ensures.backward ∙ c.shows_first.ensures.backward;
      counts = c.find.ensures.counts ∙ c.shows_first.ensures.counts;
    }
