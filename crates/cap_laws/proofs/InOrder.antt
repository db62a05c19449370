-- In a run clocks never fall, places rise, and no fragment is a whole datagram by itself; so its report is that by
-- places.
use Rattle.std.proofs.Common.{◌≡◌, ℕ, zero, suc, ◌+◌, ◌≤◌, false, List, [], ◌∷◌, ◌++◌, length, take, refl, ap, arith}
use Rattle.std.proofs.Common.{Bool, true, Option, Some, None, Ordering, subst}
use Rattle.std.specs.Bool.{OnTrue}
use Rattle.std.specs.Prelude.{is_some, map, if◌then◌else◌}
use Rattle.std.specs.Ordering.{is_lt, is_gt, ordering_reverse}
use Rattle.cap_join.specs.Frames.{is_before}
use Rattle.cap_join.specs.History.{Event}
use Rattle.cap_join.specs.Joiners.{open_limit}
use Rattle.cap_join.specs.Places.{latest_clock, marks, next_place, AreInOrder}
use Rattle.cap_merge.proofs.RunLaws.{NeverFalls, run-rises}
use Rattle.cap_time.specs.Clock.{clock_cmp}
use Rattle.cap_merge.specs.inner.Clocks.{AtMost, clock_total, at_most-itself, at_most-trans}
use Rattle.cap_merge.specs.Parts.{item_time, is_refusal}
use Rattle.cap_merge.specs.Run.{Clocked, opened_track, run}
use Rattle.cap_source.specs.Feed.{Item, packet, refused}
use Rattle.cap_time.specs.declared.stamps.Stamp.{Stamp}
use Rattle.cap_join.proofs.ByPlaces.{agree}
use Rattle.cap_join.proofs.Once.{completed}
use Rattle.cap_join.specs.Completed.{if_complete}
use Rattle.cap_join.specs.declared.datagrams.Stamped.{Stamped}
use Rattle.cap_talks.specs.table.CountedUnits.{counted_in, first_unit, is_limit_by, limit_refusal, unit_at, unit_by}
use Rattle.cap_talks.specs.table.CountedUnits.{listed, unit_seen}
use Rattle.cap_talks.proofs.LoneFragments.{no-lone}
use Rattle.cap_class.proofs.Recount.{place_of}
use Rattle.cap_class.proofs.Ipv6Packets.{ipv6-plain}
use Rattle.cap_class.specs.Classes.{classes, classes_in, groups_of}
use Rattle.cap_laws.specs.InOrder.{ByPlaces, Ipv6Apart, IsByPlaces, ReportByPlaces, classes_at, groups_at}
use Rattle.cap_laws.specs.InOrder.{refusal_by_places, refusal_with, text_by_places_in, top_by_places_in, unit_after}
use Rattle.cap_laws.specs.InOrder.{unit_after_for, unit_by_places, units_at}
use Rattle.cap_talks.specs.talks.InfoText.{or_else}
use Rattle.cap_class.specs.Runs.{with_item, taken_after}
use Rattle.cap_talks.specs.talks.ReportText.{refusal_for, refusal_here_for}
use Rattle.cap_class.specs.Taken.{Taken, events_classified, events_of, Classification, plain, datagram, fragment}
use Rattle.cap_class.specs.Taken.{classify}
use Rattle.cap_class.specs.Taken.{stamped_of}
use Rattle.cap_talks.specs.table.Conversations.{rows_of}
use Rattle.cap_talks.specs.table.TakenText.{body_for, body_showing_for, counts_for, counts_text_for, files_part_in}
use Rattle.cap_talks.specs.table.TalkLines.{talk_texts_in}
use Rattle.cap_talks.specs.table.TopRows.{top_rows}
use Rattle.cap_class.specs.Ipv6.{IsPlain, classes_seen, ipv6_read, report_classes}
use Rattle.cap_talks.specs.table.CountedUnits.{unit_for, units_for}

turned_by : (r s : Ordering) → r ≡ ordering_reverse s → is_gt s ≡ false → is_lt r ≡ false
turned_by r s e h = grind arith

pub not_before : (a b : Option Stamp) → AtMost b a → is_before a b ≡ false
not_before a b h = turned_by (clock_cmp a b) (clock_cmp b a) (clock_total.antisymm a b) h

module _ (x : Taken) (place : ℕ) (es : List Event) (clock : Option Stamp) (rises : AtMost clock x.clock)
    (ordered : AreInOrder es) (late : AtMost (latest_clock es) clock)
    (below : next_place es ≤ place) where
  pub one_more : (l : Classification) → classify place x ≡ l
      → AreInOrder (events_classified l x.clock es) × AtMost (latest_clock (events_classified l x.clock es)) x.clock
      × (next_place (events_classified l x.clock es) ≤ place + 1)
  one_more (plain c) is = (ordered, at_most-trans (latest_clock es) clock x.clock late rises, omega (arith, below))
  one_more (datagram header captured) is =
      (ordered, at_most-trans (latest_clock es) clock x.clock late rises, omega (arith, below))
  one_more (fragment p) is =
      let own : p.stamped.place ≡ place = rw is at (place_of place x) in (
        (
          not_before x.clock (latest_clock es) (at_most-trans (latest_clock es) clock x.clock late rises),
          omega (arith, below, own),
          no-lone place x p is,
          ordered,
        ),
        at_most-itself x.clock,
        omega (arith, own),
      )

record Ordered (xs : List Taken) (clock : Option Stamp) : Type 0 where
  order : AreInOrder (events_of xs)
  late : AtMost (latest_clock (events_of xs)) clock
  below : next_place (events_of xs) ≤ length xs

ordered-more : (x : Taken) (xs : List Taken) (clock : Option Stamp) → AtMost clock x.clock → Ordered xs clock
    → Ordered (x ∷ xs) x.clock
unfolding events_of
ordered-more x xs clock rises o =
    let more = one_more x (length xs) (events_of xs) clock rises o.order o.late o.below (classify (length xs) x) refl in
    record { order = more.0; late = more.1; below = omega (arith, more.2) }

ordered-item : (c clock : Option Stamp) (i : Item) (xs : List Taken) → AtMost clock c → Ordered xs clock
    → Ordered (with_item c i xs) c
ordered-item c clock (packet meta frame) xs rises o =
    ordered-more (record { clock = c; meta = meta; frame = frame }) xs clock rises o
ordered-item c clock (refused r) xs rises o = record {
  order = o.order;
  late =
      at_most-trans (latest_clock (events_of xs)) clock c o.late rises;
  below = o.below;
}

ordered-run : (run : List (Clocked Item)) (clock : Option Stamp) (xs : List Taken) → NeverFalls clock run
    → Ordered xs clock → AreInOrder (events_of (taken_after xs run))
unfolding taken_after
ordered-run [] clock xs h o = o.order
ordered-run (a ∷ run) clock xs h o = ordered-run run a.clock (with_item a.clock a.item xs) h.1
    (ordered-item a.clock clock a.item xs h.0 o)

ordered-none : Ordered [] None
unfolding events_of
ordered-none = record { order = tt; late = refl; below = omega arith }

-- the unit of one packet more
module _ (xs : List Taken) (clock : Option Stamp) (stamped : Stamped) (ordered : AreInOrder (events_of xs))
    (late : AtMost (latest_clock (events_of xs)) clock) where
  unit-same : (l : Classification) → unit_by l stamped clock (events_of xs)
      ≡ unit_by_places l stamped clock (events_of xs)
  unit-same (plain c) = refl
  unit-same (datagram header captured) = refl
  unit-same (fragment p) =
      ap (λ pieces. first_unit (if_complete pieces))
      ((agree open_limit (events_of xs) (omega arith) ordered).groups clock p
      (not_before clock (latest_clock (events_of xs)) late))

-- whether IPv6 packets are read or not
unit-read : (reads : Bool) (x : Taken) (xs : List Taken) → AreInOrder (events_of xs)
    → AtMost (latest_clock (events_of xs)) x.clock → unit_for reads xs x ≡ unit_after_for reads xs x
unfolding unit_for unit_at
unit-read reads x xs ordered late = by reads
    (unit-same xs x.clock (stamped_of (length xs) x.meta) ordered late (classify (length xs) x))
  where
    by : (reads : Bool) → unit_at xs x ≡ unit_after xs x → unit_for reads xs x ≡ unit_after_for reads xs x
    by false same = same
    by true same = ap (unit_seen (ipv6_read x.meta x.frame) (stamped_of (length xs) x.meta)) same

record Places (xs : List Taken) (clock : Option Stamp) : Type 0 where
  ordered : Ordered xs clock
  units : (reads : Bool) → units_for reads xs ≡ units_at reads xs

places-more : (x : Taken) (xs : List Taken) (clock : Option Stamp) → AtMost clock x.clock → Places xs clock
    → Places (x ∷ xs) x.clock
unfolding units_for units_at
places-more x xs clock rises p =
    let late = at_most-trans (latest_clock (events_of xs)) clock x.clock p.ordered.late rises in
    record {
      ordered = ordered-more x xs clock rises p.ordered;
      units = λ reads i. p.units reads i ++ listed (unit-read reads x xs p.ordered.order late i);
    }

places-item : (c clock : Option Stamp) (i : Item) (xs : List Taken) → AtMost clock c → Places xs clock
    → Places (with_item c i xs) c
places-item c clock (packet meta frame) xs rises p =
    places-more (record { clock = c; meta = meta; frame = frame }) xs clock rises p
places-item c clock (refused r) xs rises p = record {
  ordered =
      ordered-item c clock (refused r) xs rises p.ordered;
  units = p.units;
}

places-taken : (run : List (Clocked Item)) (clock : Option Stamp) (xs : List Taken) → NeverFalls clock run
    → Places xs clock
    → (late : Option Stamp) × Places (taken_after xs run) late
unfolding taken_after
places-taken [] clock xs h p = (clock, p)
places-taken (a ∷ run) clock xs h p = places-taken run a.clock (with_item a.clock a.item xs) h.1
    (places-item a.clock clock a.item xs h.0 p)

places-none : Places [] None
unfolding units_for units_at
places-none = record { ordered = ordered-none; units = λ reads. refl }

falls-take : (n : ℕ) (clock : Option Stamp) (run : List (Clocked Item)) → NeverFalls clock run
    → NeverFalls clock (take n run)
falls-take zero clock run h = tt
falls-take (suc n) clock [] h = tt
falls-take (suc n) clock (x ∷ xs) h = (h.0, falls-take n x.clock xs h.1)

classes-same : (reads : Bool) (xs : List Taken) → groups_of xs ≡ groups_at xs
    → report_classes reads xs ≡ classes_at reads xs
unfolding report_classes classes
classes-same false xs same = ap (λ groups. classes_in groups xs) same
classes-same true xs same = ap (λ groups. classes_seen groups xs) same

is-by-places : (xs : List Taken) (clock : Option Stamp) → Places xs clock → IsByPlaces xs
is-by-places xs clock p =
    let groups = completed open_limit (events_of xs) (omega arith) p.ordered.order in
    let agreed = agree open_limit (events_of xs) (omega arith) p.ordered.order in
    record {
      classes_are = λ reads. classes-same reads xs groups;
      units_are = p.units;
      joined = ap counted_in groups;
      given_up = agreed.given_up;
      opens = agreed.opens;
    }

pub by-places : ByPlaces
by-places files n =
    let r = run item_time is_refusal (map opened_track files) in
    let after = places-taken (take n r) None [] (falls-take n None r (run-rises item_time is_refusal files))
    places-none in
    is-by-places (taken_after [] (take n r)) after.0 after.1

-- an IPv6 packet does nothing to the groups
plain-keeps : (l : Classification) (clock : Option Stamp) (events : List Event) → IsPlain l
    → events_classified l clock events ≡ events
plain-keeps (plain c) clock events p = refl
plain-keeps (datagram header captured) clock events p = absurd p
plain-keeps (fragment piece) clock events p = absurd p

pub ipv6-apart : Ipv6Apart
unfolding events_of
ipv6-apart x xs r some =
    let p : IsPlain (classify (length xs) x) =
    subst (λ o. OnTrue (is_some o) (IsPlain (classify (length xs) x))) some
    (ipv6-plain x.clock (length xs) x.meta x.frame) in
    ap (marks open_limit) (plain-keeps (classify (length xs) x) x.clock (events_of xs) p)

-- the refusal of a run
limit-same : (reads : Bool) (x : Taken) (clock : Option Stamp) (xs : List Taken) → AtMost clock x.clock
    → Places xs clock
    → is_limit_by (units_for reads xs) (unit_for reads xs x)
    ≡ is_limit_by (units_at reads xs) (unit_after_for reads xs x)
limit-same reads x clock xs rises p =
    let late = at_most-trans (latest_clock (events_of xs)) clock x.clock p.ordered.late rises in
    λ i. is_limit_by (p.units reads i) (unit-read reads x xs p.ordered.order late i)

refusal-item : (reads : Bool) (c clock : Option Stamp) (i : Item) (xs : List Taken) → AtMost clock c → Places xs clock
    → refusal_here_for reads xs c i ≡ refusal_with reads xs c i
refusal-item reads c clock (packet meta frame) xs rises p =
    ap (λ b. if b then Some (limit_refusal meta) else None)
    (limit-same reads (record { clock = c; meta = meta; frame = frame }) clock xs rises p)
refusal-item reads c clock (refused r) xs rises p = refl

refusal-run : (reads : Bool) (run : List (Clocked Item)) (clock : Option Stamp) (xs : List Taken)
    → NeverFalls clock run → Places xs clock
    → refusal_for reads xs run ≡ refusal_by_places reads xs run
unfolding refusal_for refusal_by_places
refusal-run reads [] clock xs h p = refl
refusal-run reads (a ∷ run) clock xs h p =
    let here = refusal-item reads a.clock clock a.item xs h.0 p in
    let later = refusal-run reads run a.clock (with_item a.clock a.item xs) h.1
    (places-item a.clock clock a.item xs h.0 p) in
    λ i. or_else (here i) (later i)

pub report-by-places : ReportByPlaces
unfolding body_showing_for counts_text_for body_for text_by_places_in top_by_places_in
report-by-places count endings files =
    let r = run item_time is_refusal (map opened_track files) in
    let rises = run-rises item_time is_refusal files in
    let after = places-taken r None [] rises places-none in
    let xs = taken_after [] r in
    let is = is-by-places xs after.0 after.1 in
    record {
      text = λ reads form i. files_part_in form count (Some endings) xs
          ++ (counts_for reads form xs (is.classes_are reads i) (is.units_are reads i) (is.joined i) (is.given_up i)
          ++ talk_texts_in form (rows_of (is.units_are reads i)));
      top = λ reads form most i. files_part_in form count (Some endings) xs
          ++ (counts_for reads form xs (is.classes_are reads i) (is.units_are reads i) (is.joined i) (is.given_up i)
          ++ talk_texts_in form (top_rows most (rows_of (is.units_are reads i))));
      refusal = λ reads. refusal-run reads r None [] rises places-none;
    }
