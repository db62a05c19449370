-- Clocks are in a total order, up to equal times.
use Rattle.std.proofs.Common.{◌≡◌, Bool, true, false, cond, refl, sym, ap, ◌∙◌, Ordering, Less, Equal, Greater, Option}
use Rattle.std.proofs.Common.{arith}
use Rattle.std.specs.Ordering.{is_lt, is_gt, ordering_reverse}
use Rattle.std.specs.Cmp.{IsTotalOrder, tied_itself, tied_back, alike_right, upto}
use Rattle.std.specs.Cmp.Lexicographic.{options_total}
use Rattle.std.proofs.lemmas.Bool.{true≢false}
use Rattle.cap_time.specs.declared.stamps.Stamp.{Stamp}
use Rattle.cap_time.specs.inner.Orderings.{not_after, both_by}
use Rattle.cap_time.specs.inner.StampLaws.{stamp_cmp_total}
use Rattle.cap_time.specs.Clock.{clock_cmp, later}

pub clock_total : IsTotalOrder clock_cmp
clock_total = options_total stamp_cmp_total

-- The first isn't above the second.
abbrev pub AtMost : Option Stamp → Option Stamp → Type 0
AtMost a b = is_gt (clock_cmp a b) ≡ false

pub at_most-itself : (a : Option Stamp) → AtMost a a
at_most-itself a = ap is_gt (tied_itself clock_total a)

pub at_most-trans : (a b c : Option Stamp) → AtMost a b → AtMost b c → AtMost a c
at_most-trans = upto clock_total

below_by : (a b c : Option Stamp) (r : Ordering) → clock_cmp b c ≡ r → clock_cmp a b ≡ Less → is_gt r ≡ false
    → clock_cmp a c ≡ Less
below_by a b c Less e h k = clock_total.trans a b c h e
below_by a b c Equal e h k = sym (alike_right clock_total b c a e) ∙ h
below_by a b c Greater e h k = absurd (true≢false k)

-- below what isn't above
pub below-at_most : (a b c : Option Stamp) → clock_cmp a b ≡ Less → AtMost b c → clock_cmp a c ≡ Less
below-at_most a b c h k = below_by a b c (clock_cmp b c) refl h k

-- what isn't below isn't above, the other way round
turned_by : (r s : Ordering) → r ≡ ordering_reverse s → is_lt s ≡ false → is_gt r ≡ false
turned_by r s e h = grind arith

pub not_below : (a b : Option Stamp) → is_lt (clock_cmp a b) ≡ false → AtMost b a
not_below a b h = turned_by (clock_cmp b a) (clock_cmp a b) (clock_total.antisymm b a) h

later_by : (a b : Option Stamp) (t : Bool) → is_lt (clock_cmp a b) ≡ t → AtMost a (cond t b a) × AtMost b (cond t b a)
later_by a b true h = (not_after (clock_cmp a b) h, at_most-itself b)
later_by a b false h = (at_most-itself a, not_below a b h)

-- neither of two times is above the later
pub later-first : (a b : Option Stamp) → AtMost a (later a b)
later-first a b = (later_by a b (is_lt (clock_cmp a b)) refl).0

pub later-second : (a b : Option Stamp) → AtMost b (later a b)
later-second a b = (later_by a b (is_lt (clock_cmp a b)) refl).1

-- and the later is one of them
later_one : (P : Option Stamp → Type 0) (a b : Option Stamp) (t : Bool) → P a → P b → P (cond t b a)
later_one P a b t f g = grind arith

pub later-least : (a b c : Option Stamp) → AtMost a c → AtMost b c → AtMost (later a b) c
later-least a b c = later_one (λ w. AtMost w c) a b (is_lt (clock_cmp a b))

pub at_most-both : (a b : Option Stamp) → AtMost a b → AtMost b a → clock_cmp a b ≡ Equal
at_most-both a b h k = both_by (clock_cmp a b) (clock_cmp b a) (clock_total.antisymm a b) h k

pub equal-at_most : (a b : Option Stamp) → clock_cmp a b ≡ Equal → AtMost a b × AtMost b a
equal-at_most a b e = (ap is_gt e, ap is_gt (tied_back clock_total a b e))
