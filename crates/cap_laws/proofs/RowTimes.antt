-- The least time of some units isn't after another time exactly if one of theirs isn't, and so the greatest.
use Rattle.std.proofs.Common.{◌≡◌, ◌∙◌, List, [], ◌∷◌, Bool, true, false, Option, Some, None, refl, ap, arith}
use Rattle.std.proofs.Common.{filter, length}
use Rattle.std.specs.Prelude.{if◌then◌else◌, not, ◌||◌, ◌==◌}
use Rattle.std.specs.Ordering.{is_gt, is_lt, nat_cmp, ordering_then}
use Rattle.std.specs.declared.cmp.Ordering.{Ordering}
use Rattle.cap_laws.specs.Sums.{is_by, is_from}
use Rattle.cap_talks.specs.declared.table.units.CountedUnit.{CountedUnit}
use Rattle.cap_talks.specs.declared.table.units.TimedFrame.{TimedFrame}
use Rattle.cap_talks.specs.table.Conversations.{by_time, by_time_down, earlier_frame, frame_time, greatest_frame}
use Rattle.cap_talks.specs.table.Conversations.{later_frame, least_frame}
use Rattle.cap_time.proofs.StampForms.{stamp_upto_trans, stamp_upto_turned}
use Rattle.cap_time.specs.Stamp.{stamp_cmp}
use Rattle.cap_time.specs.declared.stamps.Stamp.{Stamp}

then-lt : (r q : Ordering) → is_lt (ordering_then r q) ≡ true → is_gt r ≡ false
then-lt r q h = grind arith

then-not-lt : (r q : Ordering) → is_lt (ordering_then r q) ≡ false → is_lt r ≡ false
then-not-lt r q h = grind arith

or-left : (x y : Bool) → (y ≡ false → x ≡ false) → not x ≡ (not x || not y)
or-left true true h = refl
or-left true false h = grind (arith, h refl)
or-left false y h = refl

or-right : (x y : Bool) → (x ≡ false → y ≡ false) → not y ≡ (not x || not y)
or-right true y h = refl
or-right false true h = grind (arith, h refl)
or-right false false h = refl

or-none : (x : Bool) → x ≡ (x || false)
or-none true = refl
or-none false = refl

earlier-case : (until : Stamp) (a b : TimedFrame) (c : Bool) → is_lt (by_time b a) ≡ c
    → is_by until (frame_time (earlier_frame (Some a) (Some b)))
    ≡ (is_by until (Some a.time) || is_by until (Some b.time))
earlier-case until a b true is =
    rw is
    (or-right (is_gt (stamp_cmp a.time until)) (is_gt (stamp_cmp b.time until))
    (stamp_upto_trans b.time a.time until (then-lt (stamp_cmp b.time a.time) (nat_cmp b.place a.place) is)))
earlier-case until a b false is =
    rw is
    (or-left (is_gt (stamp_cmp a.time until)) (is_gt (stamp_cmp b.time until))
    (stamp_upto_trans a.time b.time until (stamp_upto_turned b.time a.time
    (then-not-lt (stamp_cmp b.time a.time) (nat_cmp b.place a.place) is))))

earlier-by : (until : Stamp) (a b : Option TimedFrame)
    → is_by until (frame_time (earlier_frame a b)) ≡ (is_by until (frame_time a) || is_by until (frame_time b))
earlier-by until None b = refl
earlier-by until (Some a) None = or-none (is_by until (Some a.time))
earlier-by until (Some a) (Some b) = earlier-case until a b (is_lt (by_time b a)) refl

later-case : (since : Stamp) (a b : TimedFrame) (c : Bool) → is_lt (by_time_down b a) ≡ c
    → is_from since (frame_time (later_frame (Some a) (Some b)))
    ≡ (is_from since (Some a.time) || is_from since (Some b.time))
later-case since a b true is =
    rw is
    (or-right (is_gt (stamp_cmp since a.time)) (is_gt (stamp_cmp since b.time))
    (λ h. stamp_upto_trans since a.time b.time h
    (then-lt (stamp_cmp a.time b.time) (nat_cmp b.place a.place) is)))
later-case since a b false is =
    rw is
    (or-left (is_gt (stamp_cmp since a.time)) (is_gt (stamp_cmp since b.time))
    (λ h. stamp_upto_trans since b.time a.time h (stamp_upto_turned a.time b.time
    (then-not-lt (stamp_cmp a.time b.time) (nat_cmp b.place a.place) is))))

later-from : (since : Stamp) (a b : Option TimedFrame)
    → is_from since (frame_time (later_frame a b)) ≡ (is_from since (frame_time a) || is_from since (frame_time b))
later-from since None b = refl
later-from since (Some a) None = or-none (is_from since (Some a.time))
later-from since (Some a) (Some b) = later-case since a b (is_lt (by_time_down b a)) refl

one-more : (d : Bool) (unit : CountedUnit) (units : List CountedUnit)
    → (d || not (length units == 0)) ≡ not (length (if d then unit ∷ units else units) == 0)
one-more true unit units = grind arith
one-more false unit units = refl

pub least-by : (until : Stamp) (units : List CountedUnit)
    → is_by until (frame_time (least_frame units))
    ≡ not (length (filter (λ unit. is_by until (frame_time unit.first)) units) == 0)
least-by until [] = refl
least-by until (unit ∷ units) =
    earlier-by until unit.first (least_frame units)
    ∙ ap (λ b. is_by until (frame_time unit.first) || b) (least-by until units)
    ∙ one-more (is_by until (frame_time unit.first)) unit
    (filter (λ unit. is_by until (frame_time unit.first)) units)

pub greatest-from : (since : Stamp) (units : List CountedUnit)
    → is_from since (frame_time (greatest_frame units))
    ≡ not (length (filter (λ unit. is_from since (frame_time unit.last)) units) == 0)
greatest-from since [] = refl
greatest-from since (unit ∷ units) =
    later-from since unit.last (greatest_frame units)
    ∙ ap (λ b. is_from since (frame_time unit.last) || b) (greatest-from since units)
    ∙ one-more (is_from since (frame_time unit.last)) unit
    (filter (λ unit. is_from since (frame_time unit.last)) units)
