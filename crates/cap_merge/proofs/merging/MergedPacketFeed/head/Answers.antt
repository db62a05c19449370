use Rattle.std.proofs.lemmas.Result.{err_from_is_err_and}
use Rattle.cap_source.specs.declared.feeds.Head.TheVariants.{Packet, Refused, End}
use Rattle.cap_merge.specs.Parts.{merged_feed}
use Rattle.cap_merge.specs.inner.Sound.{lawful-each, numbered-from}
use Rattle.cap_merge.specs.inner.View.{parts_of}
use Rattle.cap_merge.proofs.Looking.{heads-known, heads-stopped, is-packet, refusal-comes, end-comes}
use Rattle.cap_merge.proofs.merging.MergedPacketFeed.head.Goals as goal

pub returns-in_err-look : goal.returns-in_err-look
returns-in_err-look g c =
    let m = c.args.self.now in
    let n = c.look.new.self in
    let ps = parts_of m in
    let qs = parts_of n in
    let lawful = lawful-each g.F.PacketFeed.feed g.met.F.PacketFeed.lawful n.lanes.items n.feeds.items in
    let p = err_from_is_err_and c.from_residual.result c.from_residual.ensures.1 in
    let h = heads-stopped ps qs c.in_err-look.field-0.0
    (numbered-from g.F.PacketFeed.feed m.lanes.items m.feeds.items m.kept.alike m.kept.numbered)
    c.in_err-look.ensures.asks lawful in
    rw (p.1, p.2) (record {
      answer = h.answer;
      keeps = h.keeps;
      items = h.items;
      asks = h.asks;
      run = h.run;
      clocks = h.clocks;
      backward = c.look.ensures.backward;
      counts = c.look.ensures.counts;
    })

pub packet-requires : goal.packet-requires
packet-requires g c =
    let n = c.look.new.self in
    record {
      packet = is-packet (merged_feed (parts_of n)).known
          (rw (c.in-Ok-true.is, c.in-Ok-true.field-0-test) at c.in_ok-look.ensures.next);
    }

pub returns-in-Ok-true : goal.returns-in-Ok-true
returns-in-Ok-true g c =
    let m = c.args.self.now in
    let n = c.look.new.self in
    let ps = parts_of m in
    let qs = parts_of n in
    let lawful = lawful-each g.F.PacketFeed.feed g.met.F.PacketFeed.lawful n.lanes.items n.feeds.items in
    let h = heads-known ps qs (Packet c.packet.result.now) c.in_ok-look.ensures.asks c.packet.ensures.packet lawful in
    record {
      answer = h.answer;
      keeps = h.keeps;
      items = h.items;
      asks = h.asks;
      run = h.run;
      clocks = h.clocks;
      backward = c.look.ensures.backward;
      counts = c.look.ensures.counts;
    }

pub returns-in-Err : goal.returns-in-Err
returns-in-Err g c =
    let m = c.args.self.now in
    let n = c.look.new.self in
    let ps = parts_of m in
    let qs = parts_of n in
    let lawful = lawful-each g.F.PacketFeed.feed g.met.F.PacketFeed.lawful n.lanes.items n.feeds.items in
    let known = refusal-comes (merged_feed qs).known c.in-Err.refusal
    (rw c.in-Err.is at c.in_ok-look.ensures.next) in
    let h = heads-known ps qs (Refused c.in-Err.refusal) c.in_ok-look.ensures.asks known lawful in
    record {
      answer = h.answer;
      keeps = h.keeps;
      items = h.items;
      asks = h.asks;
      run = h.run;
      clocks = h.clocks;
      backward = c.look.ensures.backward;
      counts = c.look.ensures.counts;
    }

pub returns-in-Ok-false : goal.returns-in-Ok-false
returns-in-Ok-false g c =
    let m = c.args.self.now in
    let n = c.look.new.self in
    let ps = parts_of m in
    let qs = parts_of n in
    let lawful = lawful-each g.F.PacketFeed.feed g.met.F.PacketFeed.lawful n.lanes.items n.feeds.items in
    let h = heads-known ps qs End c.in_ok-look.ensures.asks
    (end-comes (merged_feed qs).known
    (rw (c.in-Ok-false.is, c.in-Ok-false.field-0-test) at c.in_ok-look.ensures.next)) lawful in
    record {
      answer = h.answer;
      keeps = h.keeps;
      items = h.items;
      asks = h.asks;
      run = h.run;
      clocks = h.clocks;
      backward = c.look.ensures.backward;
      counts = c.look.ensures.counts;
    }
