use Rattle.std.proofs.Common.{refl, sym, ◌∙◌, map, None}
use Rattle.std.proofs.lemmas.List.{length-map}
use Rattle.cap_merge.specs.Parts.{merged_feed}
use Rattle.cap_merge.specs.inner.View.{parts_of}
use Rattle.cap_merge.proofs.Calls.{asked-known}
use Rattle.cap_merge.proofs.Keeping.{asked-merge, learned-merge}
use Rattle.cap_merge.proofs.Settling.{front-within, settled-asked}
use Rattle.cap_merge.proofs.merging.Merged.look.Goals as goal

pub invariant_of-self : goal.invariant_of-self
invariant_of-self g c =
    let m = c.args.self.now in
    let e = c.ask_all.ensures in
    record {
      kept = asked-merge g.F.PacketFeed.feed g.met.F.PacketFeed.lawful m.lanes.items c.ask_all.new.lanes.items
          m.feeds.items c.ask_all.new.feeds.items m.front m.kept e.lanes e.feeds e.agrees c.ask_all.result e.asks None
          refl refl;
      settled = tt;
    }

pub invariant_of-self-2 : goal.invariant_of-self-2
invariant_of-self-2 g c =
    let m = c.args.self.now in
    let e = c.ask_all.ensures in
    record {
      kept = learned-merge g.F.PacketFeed.feed g.met.F.PacketFeed.lawful m.lanes.items c.ask_all.new.lanes.items
          m.feeds.items c.ask_all.new.feeds.items m.front m.kept e.lanes e.feeds e.agrees c.in_ok-ask_all.ensures.asks
          c.first-first.result (rw c.as_slice.ensures.value at c.first-first.ensures.place);
      settled = rw c.as_slice.ensures.value at c.first-first.ensures.settled c.first-first.result;
    }

pub first-first-requires-clause-changed : goal.first-first-requires-clause-changed
first-first-requires-clause-changed g c =
    let m = c.args.self.now in
    rw (c.as_slice.ensures.value, c.ask_all.ensures.lanes) (front-within g.F.PacketFeed.feed m.lanes.items m.feeds.items
    m.front m.kept.alike m.kept.others)

pub first-first-requires-clause-settled : goal.first-first-requires-clause-settled
first-first-requires-clause-settled g c =
    let m = c.args.self.now in
    let e = c.ask_all.ensures in
    rw c.as_slice.ensures.value (settled-asked m.lanes.items c.ask_all.new.lanes.items m.tournament m.front e.lanes
    e.turns m.settled)

pub coming_at-requires-clause-known : goal.coming_at-requires-clause-known
coming_at-requires-clause-known g c =
    let m = c.args.self.now in
    rw c.as_slice-2.ensures.value
    (asked-known (parts_of m) c.ask_all.new.lanes.items
    (map g.F.PacketFeed.feed c.ask_all.new.feeds.items)
    c.ask_all.ensures.agrees c.in_ok-ask_all.ensures.asks)

pub returns-clause-next : goal.returns-clause-next
unfolding merged_feed
returns-clause-next g c =
    let m = c.args.self.now in
    (rw c.as_slice-2.ensures.value at c.coming_at.ensures) (map g.F.PacketFeed.feed c.ask_all.new.feeds.items)
    (length-map c.ask_all.new.feeds.items g.F.PacketFeed.feed ∙ c.ask_all.ensures.feeds ∙ sym m.kept.alike
    ∙ sym c.ask_all.ensures.lanes) c.ask_all.ensures.agrees
