use Rattle.std.proofs.Common.{◌≡◌, sym, ◌∙◌, map, arith, Some, Ok, Result, Bool, true, false}
use Rattle.std.specs.Result.{result_unwrap_or}
use Rattle.cap_bytes.specs.declared.faults.Refusal.{Refusal}
use Rattle.std.proofs.lemmas.List.{length-map}
use Rattle.cap_merge.specs.Parts.{parts}
use Rattle.cap_merge.specs.inner.View.{parts_of}
use Rattle.cap_merge.proofs.Calls.{asked-known}
use Rattle.cap_merge.proofs.Finding.{packet-alone}
use Rattle.cap_merge.proofs.Keeping.{learned-merge, peeked-merge}
use Rattle.cap_merge.proofs.Peeking.{peeked-looks, shows-first}
use Rattle.cap_merge.proofs.Placing.{coming-first}
use Rattle.cap_merge.proofs.Settling.{settled-at}
use Rattle.cap_merge.proofs.merging.Merged.shows_first.Goals as goal

-- only a packet counts as one
packet_only : (r : Result Bool Refusal) (b : Bool) → b ≡ result_unwrap_or r false → b ≡ true → Some r ≡ Some (Ok true)
packet_only r b e t = grind arith

pub invariant_of-self : goal.invariant_of-self
invariant_of-self g c =
    let m = c.args.self.now in
    let e = c.show_at.ensures in
    record {
      kept = peeked-merge g.F.PacketFeed.feed g.met.F.PacketFeed.lawful m.lanes.items c.show_at.new.lanes.items
          m.feeds.items c.show_at.new.feeds.items m.front m.kept e.lanes e.feeds e.agrees c.in-Some.place c.in-Some.is
          (rw c.if-not-show_at.true at e.shows);
      settled = rw c.in-Some.is (settled-at m.lanes.items c.show_at.new.lanes.items m.tournament m.front
          c.in-Some.place c.in-Some.is e.lanes e.turns m.settled);
    }

pub returns-then-not-show_at-clause-shows : goal.returns-then-not-show_at-clause-shows
returns-then-not-show_at-clause-shows g c =
    let m = c.args.self.now in
    let f = g.F.PacketFeed.feed in
    let ps = parts_of m in
    let qs = parts c.show_at.new.lanes.items (map f c.show_at.new.feeds.items) in
    let others = rw c.in-Some.is at m.kept.others in
    let peeks = rw c.if-not-show_at.true at c.show_at.ensures.shows in
    λ r rs h. peeked-looks c.in-Some.place ps qs rs r others peeks h

pub invariant_of-self-then-len-eq1 : goal.invariant_of-self-then-len-eq1
invariant_of-self-then-len-eq1 g c =
    let m = c.args.self.now in
    let e = c.show_at.ensures in
    let ls = c.show_at.new.lanes.items in
    record {
      kept = learned-merge g.F.PacketFeed.feed g.met.F.PacketFeed.lawful m.lanes.items ls m.feeds.items
          c.show_at.new.feeds.items m.front m.kept e.lanes e.feeds e.agrees (rw c.if-not-show_at.false at e.shows)
          m.front (c.in-Some.is ∙ sym (packet-alone ls c.in-Some.place (sym c.len.ensures.value ∙ c.if-len-eq1.true)
          (e.packet c.if-not-show_at.false)));
      settled = rw c.in-Some.is (settled-at m.lanes.items ls m.tournament m.front c.in-Some.place c.in-Some.is e.lanes
          e.turns m.settled);
    }

pub returns-then-len-eq1-clause-shows : goal.returns-then-len-eq1-clause-shows
returns-then-len-eq1-clause-shows g c =
    let m = c.args.self.now in
    let f = g.F.PacketFeed.feed in
    let ps = parts_of m in
    let ls = c.show_at.new.lanes.items in
    let fs = map f c.show_at.new.feeds.items in
    let learns = rw c.if-not-show_at.false at c.show_at.ensures.shows in
    let packet = c.show_at.ensures.packet c.if-not-show_at.false in
    let first = packet-alone ls c.in-Some.place (sym c.len.ensures.value ∙ c.if-len-eq1.true) packet in
    let alike = length-map c.show_at.new.feeds.items f ∙ c.show_at.ensures.feeds ∙ sym m.kept.alike
    ∙ sym c.show_at.ensures.lanes in
    let agrees = c.show_at.ensures.agrees in
    shows-first ps (parts ls fs) true learns (λ t. coming-first ls fs _ _ _
    (asked-known ps ls fs agrees learns) alike agrees first packet)

pub invariant_of-self-2 : goal.invariant_of-self-2
invariant_of-self-2 g c =
    let m = c.args.self.now in
    let e = c.show_at.ensures in
    record {
      kept = learned-merge g.F.PacketFeed.feed g.met.F.PacketFeed.lawful m.lanes.items c.show_at.new.lanes.items
          m.feeds.items c.show_at.new.feeds.items m.front m.kept e.lanes e.feeds e.agrees
          (rw c.if-not-show_at.false at e.shows) c.first-first.result
          (rw c.as_slice.ensures.value at c.first-first.ensures.place);
      settled = rw c.as_slice.ensures.value at c.first-first.ensures.settled c.first-first.result;
    }

pub first-first-requires-clause-settled : goal.first-first-requires-clause-settled
first-first-requires-clause-settled g c =
    let m = c.args.self.now in
    let e = c.show_at.ensures in
    rw c.as_slice.ensures.value (settled-at m.lanes.items c.show_at.new.lanes.items m.tournament m.front c.in-Some.place
    c.in-Some.is e.lanes e.turns m.settled)

pub coming_at-requires-clause-known : goal.coming_at-requires-clause-known
coming_at-requires-clause-known g c =
    let m = c.args.self.now in
    let f = g.F.PacketFeed.feed in
    let learns = rw c.if-not-show_at.false at c.show_at.ensures.shows in
    rw c.as_slice-2.ensures.value
    (asked-known (parts_of m) c.show_at.new.lanes.items
    (map f c.show_at.new.feeds.items) c.show_at.ensures.agrees learns)

pub returns-clause-shows : goal.returns-clause-shows
returns-clause-shows g c =
    let m = c.args.self.now in
    let f = g.F.PacketFeed.feed in
    let fs = c.show_at.new.feeds.items in
    let learns = rw c.if-not-show_at.false at c.show_at.ensures.shows in
    shows-first (parts_of m)
    (parts c.show_at.new.lanes.items (map f fs)) c.unwrap_or.result learns
    (λ t. (rw c.as_slice-2.ensures.value at c.coming_at.ensures) (map f fs)
    (length-map fs f ∙ c.show_at.ensures.feeds ∙ sym m.kept.alike
    ∙ sym c.show_at.ensures.lanes) c.show_at.ensures.agrees ∙ packet_only c.coming_at.result c.unwrap_or.result
    c.unwrap_or.ensures t)
