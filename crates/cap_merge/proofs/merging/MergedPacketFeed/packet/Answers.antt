use Rattle.std.proofs.Common.{sym, ◌∙◌, subst}
use Rattle.cap_source.specs.Feed.{IsPacket}
use Rattle.cap_merge.specs.inner.View.{parts_of}
use Rattle.cap_merge.proofs.Firsts.{known-packet, known-there, no-packet}
use Rattle.cap_merge.proofs.Placing.{none-placed}
use Rattle.cap_merge.proofs.merging.MergedPacketFeed.packet.Goals as goal

pub first_place-requires : goal.first_place-requires
first_place-requires g c =
    let m = c.args.self.now in
    known-packet (parts_of m) c.requires.packet

pub packet-requires : goal.packet-requires
packet-requires g c =
    let m = c.args.self.now in
    let at = sym c.first_place.ensures.place ∙ c.in-Some.is in
    record {
      packet = subst IsPacket
          (known-there g.F.PacketFeed.feed m.lanes.items m.feeds.items c.in-Some.place c.index.result.now
          c.index.ensures m.kept.alike at c.requires.packet) c.requires.packet;
    }

pub returns : goal.returns
returns g c =
    let m = c.args.self.now in
    let at = sym c.first_place.ensures.place ∙ c.in-Some.is in
    record {
      packet = known-there g.F.PacketFeed.feed m.lanes.items m.feeds.items c.in-Some.place c.index.result.now
          c.index.ensures m.kept.alike at c.requires.packet ∙ c.packet.ensures.packet;
    }

pub unreachable-requires : goal.unreachable-requires
unreachable-requires g c =
    let m = c.args.self.now in
    let ps = parts_of m in
    no-packet ps (none-placed ps (sym c.first_place.ensures.place ∙ c.in-None.is)) c.requires.packet
