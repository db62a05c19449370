-- What follows for stamps: their times and printed forms, and their order.
use Rattle.std.proofs.Common.{◌≡◌, ℕ, ◌*◌, ◌+◌, ◌-◌, ◌/◌, ◌%◌, ◌^◌, ◌<◌, refl, sym, ap, ◌∙◌, arith, ℤ, pos}
use Rattle.std.proofs.Math.Bool.{Bool-set}
use Rattle.std.proofs.Common.{subst, negsuc, ◌+ℤ◌, ◌*ℤ◌, Ordering, Less, Equal}
use Rattle.std.proofs.lemmas.Int.{ints}
use Rattle.std.proofs.lemmas.Nat.{div-add-mod', mod_below}
use Rattle.std.proofs.Math.Nat.{div-le_self}
use borrow.Author.Differences.{same_in, sum_is_lem, product_is}
use Rattle.std.specs.Ordering.{ordering_reverse, ordering_then, nat_cmp, is_lt, is_gt}
use Rattle.std.specs.Prelude.{IsTrue, Some, None, ◌==◌, if◌then◌else◌, true, false, int_lt, ◌≤ℤ◌, ◌<ℤ◌, neg_ℤ}
use Rattle.std.proofs.Common.{FitsSigned, of_z, w64}
use lib.IntN.{nat_abs}
use Rattle.std.specs.Cmp.{tied_itself, upto, int_cmp_is, nat_cmp_is}
use Rattle.cap_time.specs.declared.resolutions.Interface.{Interface}
use Rattle.cap_time.specs.Code.{is_allowed, units_of_code}
use Rattle.cap_time.specs.declared.stamps.Stamp.{Stamp}
use Rattle.cap_time.specs.Resolution.{units_of}
use Rattle.cap_time.specs.Time.{time_at, time_cmp, time_plus, printed_form, printed_plus, floor_of, remainder_of}
use Rattle.cap_time.specs.inner.TimeLaws.{time_cmp-alike}
use Rattle.cap_time.specs.Stamp.{offset_of, seconds_of, numerator_of, denominator_of, printed_of, time_of, time_in}
use Rattle.cap_time.specs.Stamp.{stamp_cmp, stamp_in, stamp_plus, whole_of}
use Rattle.cap_time.specs.inner.StampLaws.{stamp_cmp-parts, stamp_cmp_total, fraction_cmp, same_parts, numerator_below}
use Rattle.cap_time.specs.inner.StampLaws.{CountAlike, denominator_positive}
use Rattle.cap_time.proofs.PrintedForm.{printed_form-time_at, time_at-stamped, time_at-later}

-- a stamp's printed form is that of its time
pub printed_of-time : (a : Stamp) → printed_of a ≡ printed_form (time_of a)
printed_of-time a = sym (printed_form-time_at (seconds_of a) (numerator_of a) (denominator_of a) (numerator_below a))

-- a whole number is the rest of it above d times its floor, and that
floored : (z : ℤ) (d : ℕ) → 0 < d → pos (remainder_of z d) +ℤ floor_of z d *ℤ pos d ≡ z
unfolding floor_of remainder_of
floored (pos k) d h =
    same_in _ (pos k) (omega (
      arith,
      sum_is_lem (pos (k % d)) (pos (k / d) *ℤ pos d),
      product_is (pos (k / d)) (pos d),
      div-add-mod' k d,
    ))
floored (negsuc k) d h =
    same_in _ (negsuc k) (omega (
      arith,
      sum_is_lem (pos (d - 1 - k % d)) (negsuc (k / d) *ℤ pos d),
      product_is (negsuc (k / d)) (pos d),
      div-add-mod' k d,
      mod_below k d h,
    ))

-- the floor and the rest of a whole number of 64 bits, by its bits and its sign
pub low_of : (z : ℤ) → FitsSigned w64 z → of_z w64 z ≡ remainder_of z (2 ^ 64)
unfolding remainder_of
low_of (pos n) h = omega (arith, h.sfits, div-add-mod' n (2 ^ 64), mod_below n (2 ^ 64) (omega arith))
low_of (negsuc n) h = omega (arith, h.sfits, div-add-mod' n (2 ^ 64), mod_below n (2 ^ 64) (omega arith))

pub floor_above : (z : ℤ) → FitsSigned w64 z → int_lt z (pos 0) ≡ false → pos 0 ≡ floor_of z (2 ^ 64)
unfolding floor_of
floor_above (pos n) h g = ap pos (omega (arith, h.sfits, div-add-mod' n (2 ^ 64)))
floor_above (negsuc n) h g = grind arith

pub floor_below : (z : ℤ) → FitsSigned w64 z → int_lt z (pos 0) ≡ true → negsuc 0 ≡ floor_of z (2 ^ 64)
unfolding floor_of
floor_below (pos n) h g = grind arith
floor_below (negsuc n) h g = ap negsuc (omega (arith, h.sfits, div-add-mod' n (2 ^ 64)))

pub low_above : (z : ℤ) → FitsSigned w64 z → int_lt z (pos 0) ≡ false → nat_abs z ≡ remainder_of z (2 ^ 64)
unfolding remainder_of
low_above (pos n) h g = omega (arith, h.sfits, div-add-mod' n (2 ^ 64), mod_below n (2 ^ 64) (omega arith))
low_above (negsuc n) h g = grind arith

-- stamps of the same units and resolution are the same if they count from the same second
abbrev stamp_from : (units code : ℕ) → IsTrue (is_allowed code) → (low : ℕ) → ℤ → Stamp
stamp_from u c p l h = record { units = u; code = c; low = l; high = h; allowed = p }

pub same_stamp : (u c d : ℕ) (p : IsTrue (is_allowed c)) (q : IsTrue (is_allowed d)) (l m : ℕ) (h k : ℤ)
    → c ≡ d → l ≡ m → h ≡ k → stamp_from u c p l h ≡ stamp_from u d q m k
same_stamp u c d p q l m h k code low high =
    let along : (r : IsTrue (is_allowed d)) → stamp_from u c p l h ≡ stamp_from u d r m k =
    subst (λ (y : ℕ). (r : IsTrue (is_allowed y)) → stamp_from u c p l h ≡ stamp_from u y r m k) code
    (λ r i. stamp_from u c (Bool-set (is_allowed c) true p r i) (low i) (high i)) in
    along q

pub offset_of-stamp_in : (units : ℕ) (interface : Interface) → offset_of (stamp_in units interface) ≡ interface.offset
unfolding stamp_in
offset_of-stamp_in units interface = floored interface.offset (2 ^ 64) (omega arith)

pub seconds_of-stamp_in : (units : ℕ) (interface : Interface)
    → seconds_of (stamp_in units interface) ≡ interface.offset +ℤ pos (units / units_of interface.resolution)
unfolding stamp_in
seconds_of-stamp_in units interface = ap (λ (z : ℤ). z +ℤ pos (units / units_of interface.resolution))
    (offset_of-stamp_in units interface)

-- the whole units that it is, by those of its interface
pub whole_of-stamp_in : (d units : ℕ) (interface : Interface) → whole_of d (stamp_in units interface)
    ≡ (if units % units_of interface.resolution * d % units_of interface.resolution == 0
    then Some (
      interface.offset +ℤ pos (units / units_of interface.resolution),
      units % units_of interface.resolution * d / units_of interface.resolution,
    ) else None)
unfolding stamp_in
whole_of-stamp_in d units interface =
    ap (λ (z : ℤ). if units % units_of interface.resolution * d % units_of interface.resolution == 0
    then Some (z, units % units_of interface.resolution * d / units_of interface.resolution) else None)
    (seconds_of-stamp_in units interface)

-- how far the seconds of an interface's stamps reach
pub least_in : (units : ℕ) (interface : Interface) → neg_ℤ (pos (2 ^ 63)) ≤ℤ interface.offset
    → neg_ℤ (pos (2 ^ 63)) ≤ℤ seconds_of (stamp_in units interface)
unfolding stamp_in
least_in units interface h = omega (arith, ints, h, offset_of-stamp_in units interface)

pub most_in : (units : ℕ) (interface : Interface) → units < 2 ^ 64 → interface.offset <ℤ pos (2 ^ 63)
    → seconds_of (stamp_in units interface) <ℤ pos (2 ^ 65)
unfolding stamp_in
most_in units interface few h =
    omega (arith, ints, h, offset_of-stamp_in units interface, div-le_self units (units_of interface.resolution))

-- a stamp of later seconds counts from a later second
pub offset_of-plus : (a : Stamp) (k : ℕ) → offset_of (stamp_plus a k) ≡ offset_of a +ℤ pos k
unfolding stamp_plus
offset_of-plus a k = omega (arith, ints, div-add-mod' (a.low + k) (2 ^ 64))

pub seconds_of-plus : (a : Stamp) (k : ℕ) → seconds_of (stamp_plus a k) ≡ seconds_of a +ℤ pos k
unfolding stamp_plus
seconds_of-plus a k = omega (arith, ints, offset_of-plus a k)

pub time_of-plus : (a : Stamp) (k : ℕ) → time_of (stamp_plus a k) ≡ time_plus (time_of a) k
unfolding stamp_plus
time_of-plus a k = time_at-later (seconds_of a) _ (numerator_of a) (denominator_of a) k (seconds_of-plus a k)

pub printed_of-plus : (a : Stamp) (k : ℕ) → printed_of (stamp_plus a k) ≡ printed_plus (printed_of a) k
unfolding stamp_plus
printed_of-plus a k = λ i. record {
  seconds = seconds_of-plus a k i;
  numerator = numerator_of a;
  denominator = denominator_of a;
}

pub time_of-stamp_in : (units : ℕ) (interface : Interface)
    → time_of (stamp_in units interface) ≡ time_in units interface
unfolding stamp_in
time_of-stamp_in units interface =
    time_at-stamped interface.offset _ units _ (units_of interface.resolution) refl
    (ap (λ (z : ℤ). z +ℤ pos (units / units_of interface.resolution)) (offset_of-stamp_in units interface))

pub printed_of-stamp_in : (units : ℕ) (interface : Interface)
    → printed_of (stamp_in units interface) ≡ printed_form (time_in units interface)
printed_of-stamp_in units interface = printed_of-time (stamp_in units interface)
    ∙ ap printed_form (time_of-stamp_in units interface)

-- stamps that count alike compare as their units do
pub stamp_cmp-alike : (a b : Stamp) → CountAlike a b → stamp_cmp a b ≡ nat_cmp a.units b.units
unfolding stamp_cmp
stamp_cmp-alike a b alike =
    let d = denominator_of a in
    let seconds : offset_of b ≡ offset_of a = sym (λ i. pos (alike.1 i) +ℤ alike.2 i *ℤ pos (2 ^ 64)) in
    let own : time_of a ≡ time_at a.units d (offset_of a) = time_at-stamped (offset_of a) _ a.units d d refl refl in
    let others : time_of b ≡ time_at b.units d (offset_of a) =
    time_at-stamped (offset_of a) _ b.units (denominator_of b) d (ap units_of_code (sym alike.0))
    (ap (λ (z : ℤ). z +ℤ pos (b.units / denominator_of b)) seconds) in
    (λ i. time_cmp (own i) (others i))
    ∙ time_cmp-alike (offset_of a) a.units b.units d (denominator_positive a)

-- a stamp is before any later second's
pub stamp_cmp-later : (a : Stamp) (k : ℕ) → 0 < k → stamp_cmp a (stamp_plus a k) ≡ Less
unfolding stamp_plus
stamp_cmp-later a k h =
    stamp_cmp-parts a (stamp_plus a k)
    ∙ sym (ap (λ (r : Ordering). ordering_then r (fraction_cmp a (stamp_plus a k)))
    (int_cmp_is (seconds_of a) (seconds_of (stamp_plus a k)) Less (omega (arith, ints, seconds_of-plus a k))))

-- stamps of one time are so that many seconds later
pub stamp_plus-alike : (a b : Stamp) (k : ℕ) → stamp_cmp a b ≡ Equal
    → stamp_cmp (stamp_plus a k) (stamp_plus b k) ≡ Equal
unfolding stamp_plus
stamp_plus-alike a b k same =
    let parts : (seconds_of a ≡ seconds_of b)
    × (numerator_of a * denominator_of b ≡ numerator_of b * denominator_of a) = same_parts a b same in
    let seconds : seconds_of (stamp_plus a k) ≡ seconds_of (stamp_plus b k) = seconds_of-plus a k
    ∙ ap (λ (z : ℤ). z +ℤ pos k) parts.0 ∙ sym (seconds_of-plus b k) in
    stamp_cmp-parts (stamp_plus a k) (stamp_plus b k)
    ∙ sym (λ i. ordering_then (int_cmp_is (seconds_of (stamp_plus a k)) (seconds_of (stamp_plus b k)) Equal seconds i)
    (nat_cmp_is (numerator_of a * denominator_of b) (numerator_of b * denominator_of a) Equal parts.1 i))

-- a stamp is level with itself
pub stamp_cmp_itself : (a : Stamp) → stamp_cmp a a ≡ Equal
stamp_cmp_itself a = tied_itself stamp_cmp_total a

pub stamp_upto_itself : (a : Stamp) → is_gt (stamp_cmp a a) ≡ false
stamp_upto_itself a = ap is_gt (stamp_cmp_itself a)

turned : (r : Ordering) → is_lt r ≡ false → is_gt (ordering_reverse r) ≡ false
turned r h = grind arith

-- what isn't before another has that one up to it
pub stamp_upto_turned : (a b : Stamp) → is_lt (stamp_cmp a b) ≡ false → is_gt (stamp_cmp b a) ≡ false
stamp_upto_turned a b h = ap is_gt (stamp_cmp_total.antisymm b a) ∙ turned (stamp_cmp a b) h

pub stamp_upto_trans : (a b c : Stamp) → is_gt (stamp_cmp a b) ≡ false → is_gt (stamp_cmp b c) ≡ false
    → is_gt (stamp_cmp a c) ≡ false
stamp_upto_trans a b c = upto stamp_cmp_total a b c

-- for `grind`
pub ruleset stamp_order = (stamp_upto_itself, stamp_upto_turned)
