use Rattle.std.proofs.Common.{arith, sym, ap, ◌∙◌, map}
use Rattle.cap_merge.specs.inner.First.{first_place}
use Rattle.cap_merge.specs.inner.View.{parts_of}
use Rattle.cap_merge.proofs.Keeping.{found-first}
use Rattle.cap_merge.proofs.Placing.{turns-agree, place_within}
use Rattle.cap_merge.proofs.merging.Merged.first_place.Goals as goal

pub returns-in-Some : goal.returns-in-Some
returns-in-Some g c =
    let m = c.args.self.now in
    let f = g.F.PacketFeed.feed in
    let first = found-first (parts_of m) c.in-Some.place
    (rw c.in-Some.is at m.kept.found) c.requires in
    record {
      place = sym first;
      within = omega (
        arith,
        m.kept.alike,
        place_within f m.lanes.items m.feeds.items c.in-Some.place m.kept.alike first,
      );
    }

pub returns-in-None-clause-place : goal.returns-in-None-clause-place
returns-in-None-clause-place g c =
    let m = c.args.self.now in
    rw c.as_slice.ensures.value at c.first_lane.ensures.place
    ∙ ap first_place (sym (turns-agree m.lanes.items (map g.F.PacketFeed.feed m.feeds.items) m.kept.agrees))
