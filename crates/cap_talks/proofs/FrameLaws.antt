-- The frames that give the printed times are the first in their order.
use Rattle.std.proofs.Common.{◌≡◌, Bool, true, false, cond, List, [], ◌∷◌, refl, arith, Contains, Ordering, Option}
use Rattle.std.proofs.Common.{Some}
use Rattle.std.specs.Cmp.{IsTotalOrder}
use Rattle.std.specs.List.{AllByRecursion}
use Rattle.std.specs.Ordering.{is_lt, ordering_reverse}
use Rattle.std.proofs.lemmas.List.Elements.{Contains-get_or, Contains-append_right}
use Rattle.cap_talks.specs.declared.table.units.TimedFrame.{TimedFrame}
use Rattle.cap_time.proofs.Chosen.{chosen, not_trans}
use Rattle.cap_talks.proofs.FrameOrder.{by_time_total, by_time_down_total, earlier_is, later_is}
use Rattle.cap_talks.specs.inner.table.Laws.{with_frame, firsts, lasts, IsFirstIn, FrameLaw}
use Rattle.cap_talks.specs.declared.table.units.CountedUnit.{CountedUnit}

all-map : {X : Type 0} {P Q : X → Type 0} → ((x : X) → P x → Q x) → (xs : List X) → AllByRecursion P xs
    → AllByRecursion Q xs
all-map f [] h = h
all-map f (x ∷ xs) h = (f x h.0, all-map f xs h.1)

not_turned : (r s : Ordering) → r ≡ ordering_reverse s → is_lt s ≡ true → is_lt r ≡ false
not_turned r s e h = grind arith

module _ (cmp : TimedFrame → TimedFrame → Ordering) (total : IsTotalOrder cmp) where
  here : (x : TimedFrame) (fs : List TimedFrame) → Contains (x ∷ fs) x
  here x fs = Contains-get_or (x ∷ fs) 0 x (omega arith)

  itself : (x : TimedFrame) → is_lt (cmp x x) ≡ false
  itself x = grind (arith, cmp, total)

  -- one frame more, or none
  first-more : (a : Option TimedFrame) (fs : List TimedFrame) (r : Option TimedFrame) → IsFirstIn cmp fs r
      → IsFirstIn cmp (with_frame a fs) (chosen cmp a r)
  first-more (Some x) fs (Some y) h = by (is_lt (cmp y x)) refl
    where
      by : (t : Bool) → is_lt (cmp y x) ≡ t → IsFirstIn cmp (x ∷ fs) (cond t (Some y) (Some x))
      by true is = (
        Contains-append_right (x ∷ []) fs y h.0,
        (not_turned (cmp x y) (cmp y x) (total.antisymm x y) is, h.1),
      )
      by false is = (here x fs, (itself x, all-map (λ o n. not_trans cmp total o y x n is) fs h.1))
  first-more a fs r h = grind (arith, here, itself, cmp)

pub frame_law : (units : List CountedUnit) → FrameLaw units
frame_law [] = record { first = refl; last = refl }
frame_law (u ∷ units) =
    search (
      frame_law units,
      with_frame,
      firsts,
      earlier_is,
      first-more,
      by_time_total,
      lasts,
      later_is,
      by_time_down_total,
    )
