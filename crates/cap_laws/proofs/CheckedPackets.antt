-- What `check` counts packet by packet is what it counts by places.
use Rattle.std.proofs.Common.{◌≡◌, ◌+◌, Bool, true, false, List, [], ◌∷◌, ◌++◌, length, map, Option, Some, None}
use Rattle.std.proofs.Common.{refl, sym, ap, ◌∙◌, arith}
use Rattle.std.proofs.Math.Bool.{or-false, or_assoc}
use Rattle.std.proofs.lemmas.Bool.{false≢true}
use Rattle.std.proofs.lemmas.Cmp.{back_total, upto}
use Rattle.std.proofs.lemmas.List.Sums.{sum_by-cons}
use Rattle.std.specs.Cmp.{IsTotalOrder}
use Rattle.std.specs.List.{count_by, list_any}
use Rattle.std.specs.Ordering.{is_gt, is_lt, ordering_reverse}
use Rattle.std.specs.Prelude.{cond, if◌then◌else◌, is_none, ◌||◌}
use Rattle.std.specs.declared.cmp.Ordering.{Ordering}
use Rattle.std.specs.declared.cmp.Ordering.TheVariants.{Equal, Greater, Less}
use Rattle.cap_source.specs.Feed.{Item, packet, refused}
use Rattle.cap_source.specs.Times.{meta_time}
use Rattle.cap_source.specs.declared.packets.Meta.{Meta}
use Rattle.cap_time.proofs.Chosen.{chosen, chosen-alone, chosen-assoc}
use Rattle.cap_time.specs.Clock.{earlier, greatest, greatest_from, is_backward, later}
use Rattle.cap_time.specs.Stamp.{stamp_cmp}
use Rattle.cap_time.specs.inner.StampLaws.{stamp_cmp_total}
use Rattle.cap_time.specs.declared.stamps.Stamp.{Stamp}
use Rattle.cap_check.specs.Checking.{checked_after, counted_if, nothing_checked, with_checked}
use Rattle.cap_check.specs.declared.checked.Checked.{Checked}
use Rattle.cap_talks.specs.counts.Counting.{counted, greatest_time, least_time, original_bytes, packets_of}
use Rattle.cap_talks.specs.counts.Counting.{truncated_packets}
use Rattle.cap_merge.specs.inner.Clocks.{clock_total}
use Rattle.cap_laws.specs.CheckedPackets.{CheckedByPlaces, goes_backward, with_earlier}

or-right : (x y : Bool) → (y ≡ false → x ≡ false) → y ≡ (x || y)
or-right true true h = refl
or-right true false h = absurd (false≢true (sym (h refl)))
or-right false y h = refl

or-left : (x y : Bool) → (x ≡ false → y ≡ false) → x ≡ (x || y)
or-left true y h = refl
or-left false true h = absurd (false≢true (sym (h refl)))
or-left false false h = refl

less-no-more : (r : Ordering) → is_lt r ≡ true → is_gt r ≡ false
less-no-more Less e = refl
less-no-more Equal e = refl
less-no-more Greater e = absurd (false≢true e)

turned-no-more : (r : Ordering) → is_lt r ≡ false → is_gt (ordering_reverse r) ≡ false
turned-no-more Less e = absurd (false≢true (sym e))
turned-no-more Equal e = refl
turned-no-more Greater e = refl

-- the greater of two is beyond a third exactly if one of them is
module _ {K : Type 0} {R : K → K → Ordering} (o : IsTotalOrder R) where
  beyond-by : (a b c : K) (less : Bool) → is_lt (R a b) ≡ less
      → is_gt (R (if less then b else a) c) ≡ (is_gt (R a c) || is_gt (R b c))
  beyond-by a b c true e =
      or-right (is_gt (R a c)) (is_gt (R b c)) (λ h. upto o a b c (less-no-more (R a b) e) h)
  beyond-by a b c false e =
      or-left (is_gt (R a c)) (is_gt (R b c))
      (λ h. upto o b a c (ap is_gt (o.antisymm b a) ∙ turned-no-more (R a b) e) h)

backward-later : (a b time : Option Stamp) → is_backward (later a b) time ≡ (is_backward a time || is_backward b time)
backward-later a b None = refl
backward-later a b (Some stamp) = beyond-by clock_total a b (Some stamp) _ refl

-- a time is below the greatest of some exactly if it is below one of them
backward-any : (clock : Option Stamp) (times : List (Option Stamp)) (time : Option Stamp)
    → is_backward (greatest_from clock times) time
    ≡ (is_backward clock time || list_any (λ earlier. is_backward earlier time) times)
backward-any clock [] time = sym (or-false (is_backward clock time))
backward-any clock (t ∷ ts) time =
    let any = list_any (λ (earlier : Option Stamp). is_backward earlier time) ts in
    backward-any (later clock t) ts time
    ∙ (ap (λ x. x || any) (backward-later clock t time) ∙ or_assoc (is_backward clock time) (is_backward t time) any)

no-clock : (time : Option Stamp) → is_backward None time ≡ false
no-clock None = refl
no-clock (Some stamp) = refl

below-greatest : (times : List (Option Stamp)) (time : Option Stamp)
    → is_backward (greatest times) time ≡ goes_backward (times, time)
below-greatest times time =
    backward-any None times time
    ∙ ap (λ x. x || list_any (λ (earlier : Option Stamp). is_backward earlier time) times) (no-clock time)

greatest-more : (clock : Option Stamp) (times : List (Option Stamp)) (time : Option Stamp)
    → greatest_from clock (times ++ time ∷ []) ≡ later (greatest_from clock times) time
greatest-more clock [] time = refl
greatest-more clock (t ∷ ts) time = greatest-more (later clock t) ts time

packets-law : (counts : Checked) (items : List Item)
    → (checked_after counts items).packets ≡ counts.packets + length (packets_of items)
unfolding checked_after packets_of
packets-law counts [] = omega arith
packets-law counts (packet meta frame ∷ items) = packets-law (with_checked counts meta) items ∙ omega arith
packets-law counts (refused r ∷ items) = omega arith

bytes-law : (counts : Checked) (items : List Item)
    → (checked_after counts items).bytes ≡ counts.bytes + original_bytes (packets_of items)
unfolding checked_after packets_of
bytes-law counts [] = omega arith
bytes-law counts (packet meta frame ∷ items) = bytes-law (with_checked counts meta) items ∙ omega arith
bytes-law counts (refused r ∷ items) = omega arith

-- the order of times from the greatest down
abbrev down : Stamp → Stamp → Ordering
down a b = stamp_cmp b a

down_total : IsTotalOrder down
down_total = back_total stamp_cmp_total

earlier_is : (a b : Option Stamp) → earlier a b ≡ chosen stamp_cmp a b
earlier_is a b = cc

later_is : (a b : Option Stamp) → later a b ≡ chosen down a b
later_is a b = grind arith

earlier-assoc : (a b c : Option Stamp) → earlier (earlier a b) c ≡ earlier a (earlier b c)
earlier-assoc a b c = search (earlier_is, chosen-assoc, stamp_cmp_total)

later-assoc : (a b c : Option Stamp) → later (later a b) c ≡ later a (later b c)
later-assoc a b c = search (later_is, chosen-assoc, down_total)

earlier-alone : (a : Option Stamp) → a ≡ earlier a None
earlier-alone a = sym (earlier_is a None ∙ chosen-alone stamp_cmp a)

later-alone : (a : Option Stamp) → a ≡ later a None
later-alone a = sym (later_is a None ∙ chosen-alone down a)

first-law : (counts : Checked) (items : List Item)
    → (checked_after counts items).first ≡ earlier counts.first (least_time (packets_of items))
unfolding checked_after packets_of
first-law counts [] = earlier-alone counts.first
first-law counts (packet meta frame ∷ items) =
    first-law (with_checked counts meta) items
    ∙ earlier-assoc counts.first (meta_time meta) (least_time (packets_of items))
first-law counts (refused r ∷ items) = earlier-alone counts.first

last-law : (counts : Checked) (items : List Item)
    → (checked_after counts items).last ≡ later counts.last (greatest_time (packets_of items))
unfolding checked_after packets_of
last-law counts [] = later-alone counts.last
last-law counts (packet meta frame ∷ items) =
    last-law (with_checked counts meta) items
    ∙ later-assoc counts.last (meta_time meta) (greatest_time (packets_of items))
last-law counts (refused r ∷ items) = later-alone counts.last

none-first : (time : Option Stamp) → later None time ≡ time
none-first None = refl
none-first (Some stamp) = refl

truncated-law : (counts : Checked) (items : List Item)
    → (checked_after counts items).truncated ≡ counts.truncated + truncated_packets (packets_of items)
unfolding checked_after packets_of
truncated-law counts [] = omega arith
truncated-law counts (packet meta frame ∷ items) = truncated-law (with_checked counts meta) items ∙ omega arith
truncated-law counts (refused r ∷ items) = omega arith

untimed-law : (counts : Checked) (items : List Item)
    → (checked_after counts items).untimed
    ≡ counts.untimed + count_by (λ meta. is_none (meta_time meta)) (packets_of items)
unfolding checked_after packets_of
untimed-law counts [] = omega arith
untimed-law counts (packet meta frame ∷ items) =
    let one = sum_by-cons (λ (m : Meta). cond (is_none (meta_time m)) 1 0) meta (packets_of items) in
    untimed-law (with_checked counts meta) items ∙ omega (arith, one)
untimed-law counts (refused r ∷ items) = omega arith

-- `times` are those of the packets before these
backward-law : (times : List (Option Stamp)) (counts : Checked) (items : List Item) → counts.last ≡ greatest times
    → (checked_after counts items).backward ≡ counts.backward
    + count_by goes_backward (with_earlier times (map (λ meta. meta_time meta) (packets_of items)))
unfolding checked_after packets_of with_earlier
backward-law times counts [] clock = omega arith
backward-law times counts (packet meta frame ∷ items) clock =
    let time = meta_time meta in
    let rest = with_earlier (times ++ time ∷ []) (map (λ (m : Meta). meta_time m) (packets_of items)) in
    let below : is_backward counts.last time ≡ goes_backward (times, time) =
    ap (λ (c : Option Stamp). is_backward c time) clock ∙ below-greatest times time in
    let one = sum_by-cons (λ (placed : List (Option Stamp) × Option Stamp). cond (goes_backward placed) 1 0)
    (times, time) rest in
    backward-law (times ++ time ∷ []) (with_checked counts meta) items
    (ap (λ (c : Option Stamp). later c time) clock ∙ sym (greatest-more None times time))
    ∙ (ap (λ (b : Bool). counts.backward + counted_if b + count_by goes_backward rest) below ∙ omega (arith, one))
backward-law times counts (refused r ∷ items) clock = omega arith

pub checked-by-places : CheckedByPlaces
unfolding counted
checked-by-places items = record {
  packets = packets-law nothing_checked items ∙ omega arith;
  bytes = bytes-law nothing_checked items ∙ omega arith;
  first = first-law nothing_checked items;
  last = last-law nothing_checked items ∙ none-first (greatest_time (packets_of items));
  truncated = truncated-law nothing_checked items ∙ omega arith;
  backward = backward-law [] nothing_checked items refl ∙ omega arith;
  untimed = untimed-law nothing_checked items ∙ omega arith;
}
