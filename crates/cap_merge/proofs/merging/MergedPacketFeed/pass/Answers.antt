use Rattle.std.proofs.Common.{refl, sym, ◌∙◌}
use Rattle.cap_bytes.proofs.Parsing.{none_from}
use Rattle.cap_merge.specs.Parts.{clock_of, merged_feed}
use Rattle.cap_merge.specs.inner.View.{parts_of}
use Rattle.cap_merge.proofs.Backward.{counted-more}
use Rattle.cap_merge.proofs.Firsts.{packet-at-first, passed-of, no-packet, known-packet}
use Rattle.cap_merge.proofs.Keeping.{passed-merge, front-is}
use Rattle.cap_merge.proofs.Placing.{place_within, none-placed}
use Rattle.cap_merge.proofs.Settling.{settled-passed}
use Rattle.cap_merge.proofs.merging.MergedPacketFeed.pass.Goals as goal

pub first_place-requires : goal.first_place-requires
first_place-requires g c =
    let m = c.args.self.now in
    known-packet (parts_of m) c.requires.packet

pub pass_at-requires : goal.pass_at-requires
pass_at-requires g c =
    let m = c.args.self.now in
    let f = g.F.PacketFeed.feed in
    let at = sym c.first_place.ensures.place ∙ c.in-Some.is in
    record {
      alike = m.kept.alike;
      agrees = m.kept.agrees;
      place = place_within f m.lanes.items m.feeds.items c.in-Some.place m.kept.alike at;
      packet = packet-at-first f m.lanes.items m.feeds.items c.in-Some.place m.kept.some m.kept.alike at
          c.requires.packet;
    }

pub invariant_of-self : goal.invariant_of-self
invariant_of-self g c = record { kept = c.args.self.now.kept; settled = c.args.self.now.settled }

pub invariant_of-self-in-Some : goal.invariant_of-self-in-Some
invariant_of-self-in-Some g c =
    let m = c.args.self.now in
    let e = c.pass_at.ensures in
    record {
      kept = passed-merge g.F.PacketFeed.feed g.met.F.PacketFeed.lawful m.lanes.items c.pass_at.new.lanes.items
          m.feeds.items c.pass_at.new.feeds.items m.front m.kept e.lanes e.feeds e.agrees c.in-Some.place
          (sym c.first_place.ensures.place ∙ c.in-Some.is) c.requires.packet e.passes;
      settled = settled-passed m.lanes.items c.pass_at.new.lanes.items m.tournament m.front c.in-Some.place
          (front-is (parts_of m) m.front c.in-Some.place m.kept.found (known-packet (parts_of m) c.requires.packet)
          (sym c.first_place.ensures.place ∙ c.in-Some.is)) e.lanes e.turns m.settled;
    }

pub returns-in-Some : goal.returns-in-Some
returns-in-Some g c =
    let m = c.args.self.now in
    let passed = passed-of g.F.PacketFeed.feed g.met.F.PacketFeed.lawful m.lanes.items c.pass_at.new.lanes.items
    m.feeds.items c.pass_at.new.feeds.items c.in-Some.place m.kept.some m.kept.alike
    (sym c.first_place.ensures.place ∙ c.in-Some.is) m.kept.numbered m.kept.reached c.requires.packet
    c.pass_at.ensures.passes in
    record {
      passes = passed.passes;
      keeps = passed.keeps;
      run = passed.run;
      clocks = passed.clocks;
      backward = counted-more (merged_feed (parts_of m)).known m.counts m.backward c.backward_step.result
          c.saturating_add-self.result (clock_of (parts_of m)) c.backward_step.ensures c.saturating_add-self.ensures;
      counts = refl;
    }

pub returns-in_default : goal.returns-in_default
returns-in_default g c =
    let ps = parts_of c.args.self.now in
    let none = none_from c.first_place.result c.in_default.not-Some in
    absurd (no-packet ps (none-placed ps (sym c.first_place.ensures.place ∙ none)) c.requires.packet)
