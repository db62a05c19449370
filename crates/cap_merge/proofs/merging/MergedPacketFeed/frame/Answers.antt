use Rattle.std.proofs.Common.{sym, ◌∙◌, subst}
use Rattle.cap_source.specs.Feed.{IsPacket}
use Rattle.cap_merge.specs.inner.View.{parts_of}
use Rattle.cap_merge.proofs.Firsts.{known-packet, known-there, frame-here, frame-none}
use Rattle.cap_merge.proofs.merging.MergedPacketFeed.frame.Goals as goal

pub first_place-requires : goal.first_place-requires
first_place-requires g c =
    let m = c.args.self.now in
    known-packet (parts_of m) c.requires.packet

pub frame-requires : goal.frame-requires
frame-requires g c =
    let m = c.args.self.now in
    let at = sym c.first_place.ensures.place ∙ c.in-Some.is in
    record {
      packet = subst IsPacket
          (known-there g.F.PacketFeed.feed m.lanes.items m.feeds.items c.in-Some.place c.index.result.now
          c.index.ensures m.kept.alike at c.requires.packet) c.requires.packet;
    }

pub returns-in-Some : goal.returns-in-Some
returns-in-Some g c =
    let m = c.args.self.now in
    let at = sym c.first_place.ensures.place ∙ c.in-Some.is in
    record {
      frame = c.frame.ensures.frame
          ∙ frame-here g.F.PacketFeed.feed m.lanes.items m.feeds.items c.in-Some.place c.index.result.now
          c.index.ensures m.kept.alike at;
    }

pub returns-in-None : goal.returns-in-None
returns-in-None g c =
    let m = c.args.self.now in
    record {
      frame = frame-none g.F.PacketFeed.feed m.lanes.items m.feeds.items (sym c.first_place.ensures.place
          ∙ c.in-None.is);
    }
