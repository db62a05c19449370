use Rattle.std.proofs.Common.{sym, ◌∙◌, map, subst}
use Rattle.cap_source.specs.Feed.{IsPacket}
use Rattle.cap_merge.specs.Parts.{parts, merged_feed}
use Rattle.cap_merge.specs.inner.View.{parts_of}
use Rattle.cap_merge.proofs.FirstClock.{first-clock}
use Rattle.cap_merge.proofs.Firsts.{known-packet, known-there, frame-here, no-packet, packet-next}
use Rattle.cap_merge.proofs.Placing.{none-placed, place_within}
use Rattle.cap_merge.proofs.merging.Merged.next_packet.Goals as goal

pub first_place-requires : goal.first_place-requires
first_place-requires g c =
    let m = c.args.self.now in
    known-packet (parts_of m) c.requires

pub clock_at-requires : goal.clock_at-requires
clock_at-requires g c =
    let m = c.args.self.now in
    rw c.as_slice.ensures.value
    (place_within g.F.PacketFeed.feed m.lanes.items m.feeds.items c.in-Some.place m.kept.alike
    (sym c.first_place.ensures.place ∙ c.in-Some.is))

pub packet-requires : goal.packet-requires
packet-requires g c =
    let m = c.args.self.now in
    let at = sym c.first_place.ensures.place ∙ c.in-Some.is in
    record {
      packet = subst IsPacket
          (known-there g.F.PacketFeed.feed m.lanes.items m.feeds.items c.in-Some.place c.index.result.now
          c.index.ensures m.kept.alike at c.requires) c.requires;
    }

pub frame-requires : goal.frame-requires
frame-requires g c =
    let m = c.args.self.now in
    let at = sym c.first_place.ensures.place ∙ c.in-Some.is in
    record {
      packet = subst IsPacket
          (known-there g.F.PacketFeed.feed m.lanes.items m.feeds.items c.in-Some.place c.index-in-Some.result.now
          c.index-in-Some.ensures m.kept.alike at c.requires) c.requires;
    }

pub invariant_of-result : goal.invariant_of-result
invariant_of-result g c =
    let m = c.args.self.now in
    let ls = m.lanes.items in
    let fs = m.feeds.items in
    let f = g.F.PacketFeed.feed in
    let at = sym c.first_place.ensures.place ∙ c.in-Some.is in
    let next = packet-next (merged_feed (parts ls (map f fs))).known c.requires in
    let clock = first-clock f g.met.F.PacketFeed.lawful ls fs c.in-Some.place m.kept.some m.kept.alike at next
    m.kept.bounded m.kept.reached
    c.clock_at.result.now (sym (rw c.as_slice.ensures.value at c.clock_at.ensures)) in
    record { bounded = clock.bounded }

pub returns : goal.returns
returns g c =
    let m = c.args.self.now in
    let ls = m.lanes.items in
    let fs = m.feeds.items in
    let f = g.F.PacketFeed.feed in
    let place = c.in-Some.place in
    let at = sym c.first_place.ensures.place ∙ c.in-Some.is in
    let next = packet-next (merged_feed (parts ls (map f fs))).known c.requires in
    let clock = first-clock f g.met.F.PacketFeed.lawful ls fs place m.kept.some m.kept.alike at next m.kept.bounded
    m.kept.reached
    c.clock_at.result.now (sym (rw c.as_slice.ensures.value at c.clock_at.ensures)) in
    record {
      clock = clock.value;
      from = clock.from;
      not_below = clock.not_below;
      run = clock.run;
      packet = known-there f ls fs place c.index.result.now c.index.ensures m.kept.alike at c.requires
          ∙ c.packet.ensures.packet;
      frame = c.frame.ensures.frame
          ∙ frame-here f ls fs place c.index-in-Some.result.now c.index-in-Some.ensures m.kept.alike at;
    }

pub unreachable-requires : goal.unreachable-requires
unreachable-requires g c =
    let m = c.args.self.now in
    let ps = parts_of m in
    no-packet ps (none-placed ps (sym c.first_place.ensures.place ∙ c.in-None.is)) c.requires
