-- What `join` writes of a run is what it writes by places: clocks never fall there.
use Rattle.std.proofs.Common.{◌≡◌, ℕ, ◌+◌, ◌≤◌, List, [], ◌∷◌, ◌++◌, refl, ap, sym, subst, arith, Option, None}
use Rattle.std.specs.Prelude.{map}
use Rattle.cap_join.proofs.ByPlaces.{agree}
use Rattle.cap_join.specs.Fragments.{Piece}
use Rattle.cap_join.specs.History.{Event}
use Rattle.cap_join.specs.Joiners.{open_limit}
use Rattle.cap_join.specs.Places.{latest_clock, next_place, AreInOrder}
use Rattle.cap_merge.proofs.RunLaws.{NeverFalls, run-rises}
use Rattle.cap_merge.specs.inner.Clocks.{AtMost, at_most-trans}
use Rattle.cap_merge.specs.Parts.{item_time, is_refusal}
use Rattle.cap_merge.specs.Run.{Clocked, opened_track, run}
use Rattle.cap_source.specs.Feed.{Item, packet, refused}
use Rattle.cap_class.specs.Taken.{Taken, classify, taken, events_classified}
use Rattle.cap_time.specs.declared.stamps.Stamp.{Stamp}
use Rattle.cap_write.specs.Joined.{completed, datagram_of, events_after, events_here, group_after, items_here}
use Rattle.cap_write.specs.Joined.{items_of_packet, items_with_datagram, joined_items}
use Rattle.cap_write.specs.Texts.{merged_bytes, merged_refusal}
use Rattle.cap_laws.proofs.InOrder.{not_before, one_more}
use Rattle.cap_write.specs.PcapRun.{run_bytes, run_refusal}
use Rattle.cap_laws.specs.JoinedByPlaces.{group_by_places, completed_by_places, items_by_places, joined_by_places}
use Rattle.cap_laws.specs.JoinedByPlaces.{JoinedByPlaces}

-- some events before a packet of that place, at a clock
record Ready (place : ℕ) (es : List Event) (clock : Option Stamp) : Type 0 where
  order : AreInOrder es
  late : AtMost (latest_clock es) clock
  below : next_place es ≤ place

-- the events with a packet are those of the report
events-more : (place : ℕ) (es : List Event) (x : Taken)
    → events_after place es x.clock x.meta x.frame ≡ events_classified (classify place x) x.clock es
unfolding events_after
events-more place es x = refl

ready-packet : (place : ℕ) (es : List Event) (clock : Option Stamp) (x : Taken) → AtMost clock x.clock
    → Ready place es clock
    → Ready (place + 1) (events_after place es x.clock x.meta x.frame) x.clock
ready-packet place es clock x rises r =
    let more = one_more x place es clock rises r.order r.late r.below (classify place x) refl in
    subst (λ (es : List Event). Ready (place + 1) es x.clock) (sym (events-more place es x))
    (record { order = more.0; late = more.1; below = more.2 })

ready-item : (place : ℕ) (es : List Event) (c clock : Option Stamp) (i : Item) → AtMost clock c → Ready place es clock
    → Ready (place + 1) (events_here place es c i) c
ready-item place es c clock (packet meta frame) rises r =
    ready-packet place es clock (record { clock = c; meta = meta; frame = frame }) rises r
ready-item place es c clock (refused refusal) rises r =
    record {
      order = r.order;
      late = at_most-trans (latest_clock es) clock c r.late rises;
      below = omega (arith, r.below);
    }

-- a fragment's group is the one by places
same-group : (es : List Event) (c clock : Option Stamp) → AtMost clock c → AreInOrder es
    → AtMost (latest_clock es) clock
    → (p : Piece) → group_after c es p ≡ group_by_places c es p
same-group es c clock rises order late p =
    (agree open_limit es (omega arith) order).groups c p
    (not_before c (latest_clock es) (at_most-trans (latest_clock es) clock c late rises))

same-items : (place : ℕ) (es : List Event) (c clock : Option Stamp) (i : Item) → AtMost clock c → Ready place es clock
    → items_here place es c i ≡ items_by_places place es c i
unfolding items_of_packet completed completed_by_places
same-items place es c clock (packet meta frame) rises r =
    let group = same-group es c clock rises r.order r.late in
    λ i. items_with_datagram meta frame (datagram_of (classify place (taken c meta frame)) (λ p. group p i))
same-items place es c clock (refused refusal) rises r = refl

same-run : (run : List (Clocked Item)) (place : ℕ) (es : List Event) (clock : Option Stamp) → NeverFalls clock run
    → Ready place es clock
    → joined_items place es run ≡ joined_by_places place es run
unfolding joined_items joined_by_places
same-run [] place es clock h r = refl
same-run (a ∷ run) place es clock h r =
    let here = same-items place es a.clock clock a.item h.0 r in
    let later = same-run run (place + 1) (events_here place es a.clock a.item) a.clock h.1
    (ready-item place es a.clock clock a.item h.0 r) in
    λ i. here i ++ later i

pub joined-by-places : JoinedByPlaces
joined-by-places order files =
    let r = run item_time is_refusal (map opened_track files) in
    let same = same-run r 0 [] None (run-rises item_time is_refusal files)
    (record { order = tt; late = refl; below = omega arith }) in
    record {
      bytes = ap (merged_bytes order) same;
      refusal = ap merged_refusal same;
      pcap_bytes = λ unit. ap (run_bytes unit order) same;
      pcap_refusal = λ unit. ap (run_refusal unit) same;
    }
