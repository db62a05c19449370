use Rattle.std.proofs.Common.{sym, ◌∙◌}
use Rattle.cap_merge.specs.inner.View.{parts_of}
use Rattle.cap_merge.proofs.FirstClock.{first-clock}
use Rattle.cap_merge.proofs.Firsts.{known-next, no-next}
use Rattle.cap_merge.proofs.Placing.{none-placed, place_within}
use Rattle.cap_merge.proofs.merging.Merged.clock.Goals as goal

pub first_place-requires : goal.first_place-requires
first_place-requires g c =
    let m = c.args.self.now in
    known-next (parts_of m) c.requires

pub clock_at-requires : goal.clock_at-requires
clock_at-requires g c =
    let m = c.args.self.now in
    rw c.as_slice.ensures.value
    (place_within g.F.PacketFeed.feed m.lanes.items m.feeds.items c.in-Some.place m.kept.alike
    (sym c.first_place.ensures.place ∙ c.in-Some.is))

pub returns : goal.returns
returns g c =
    let m = c.args.self.now in
    let ls = m.lanes.items in
    let fs = m.feeds.items in
    let at = sym c.first_place.ensures.place ∙ c.in-Some.is in
    let clock = first-clock g.F.PacketFeed.feed g.met.F.PacketFeed.lawful ls fs c.in-Some.place m.kept.some
    m.kept.alike at
    c.requires m.kept.bounded m.kept.reached
    c.clock_at.result.now (sym (rw c.as_slice.ensures.value at c.clock_at.ensures)) in
    record {
      clock = clock.value;
      bounded = clock.bounded;
      from = clock.from;
      not_below = clock.not_below;
      run = clock.run;
    }

pub unreachable-requires : goal.unreachable-requires
unreachable-requires g c =
    let m = c.args.self.now in
    let ps = parts_of m in
    no-next ps (none-placed ps (sym c.first_place.ensures.place ∙ c.in-None.is)) c.requires
