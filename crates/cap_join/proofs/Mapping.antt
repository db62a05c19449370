-- What a buffer holds once one more fragment is put into it.
use Rattle.std.proofs.lemmas.Bool.Decides.{nat_tests}
use Rattle.std.proofs.lemmas.Grind.{common_steps}
use Rattle.std.proofs.Common.{◌≡◌, ℕ, ◌-◌, ◌*◌, ◌/◌, ◌<◌, ◌≤◌, Bool, true, false, List, [], ◌∷◌, length, refl, arith}
use Rattle.std.proofs.Common.{max, ◌||◌, not}
use Rattle.std.specs.Prelude.{slice_index}
use Rattle.std.proofs.lemmas.Bool.{cases_lt}
use Rattle.std.proofs.Math.Bool.{or-false}
use Rattle.cap_join.specs.Holes.{Span, is_within, in_hole, ChangesWithin, Punched}
use Rattle.cap_join.specs.Fragments.{Piece, end_of, IsShapedFragment, AreShaped}
use Rattle.cap_join.specs.ByteMap.{holds, is_covered, byte_at, greatest_end, rounded}
use Rattle.cap_join.specs.inner.Buffers.{Maps, Grown}
use Rattle.cap_join.proofs.Punching.{unchanged, or_false_right, within-below}
use Rattle.cap_join.proofs.Growing.{IsChain-apart}

-- no fragment covers a block after the greatest end
pub uncovered_beyond : (ps : List Piece) (k : ℕ) → greatest_end ps ≤ 8 * k → is_covered ps k ≡ false
uncovered_beyond [] k h = refl
uncovered_beyond (p ∷ ps) k h = grind (arith, uncovered_beyond ps k (omega arith))

-- a byte of a block that none covers is 0
pub byte_at-uncovered : (ps : List Piece) (i : ℕ) → AreShaped ps → is_covered ps (i / 8) ≡ false → byte_at ps i ≡ 0
byte_at-uncovered [] i shaped h = refl
byte_at-uncovered (p ∷ ps) i shaped h =
    grind (arith, byte_at-uncovered ps i shaped.1 (or_false_right (holds p (8 * (i / 8))) (is_covered ps (i / 8)) h))

or_first : (x y : Bool) → (x || y) ≡ true → y ≡ false → x ≡ true
or_first x y h k = grind arith

sized : (n g e end l : ℕ) → n ≡ rounded g → end ≡ rounded e → l ≡ max n end → l ≡ rounded (max e g)
sized n g e end l p q r = grind arith

-- a hole that is left lies outside of what is copied
pub outside_after : (a e b : ℕ) (old mid new : List ℕ) (ss : List Span) (first : ℕ) → e ≤ b
    → (u : Punched a b old ss 0 (length old) first mid) → ChangesWithin a e mid new
    → (k : ℕ) → in_hole u.spans k ≡ true → slice_index new k ≡ slice_index mid k
outside_after a e b old mid new ss first le u w k h = grind arith

module _ (p : Piece) (ps : List Piece) (end hole0 hole1 hole2 : ℕ) (xs0 xs1 xs2 xs3 : List ℕ)
    (shaped : IsShapedFragment p) (end_is : end ≡ rounded (end_of p)) (m : Maps xs0 hole0 ps)
    (g : Grown end xs0 m.spans hole1 xs1)
    (u : Punched p.start end xs1 g.spans 0 (length xs1) hole2 xs2)
    (w : ChangesWithin p.start (end_of p) xs2 xs3)
    (copied : (i : ℕ) → p.start ≤ i → i < end_of p → slice_index xs3 i ≡ slice_index p.bytes (i - p.start)) where
  beyond : (i : ℕ) → length xs0 ≤ i → is_covered ps (i / 8) ≡ false
  beyond i q = uncovered_beyond ps (i / 8) (omega (arith, m.length_is))

  -- the holes after growing are the blocks that were not covered
  grown_holes : (i : ℕ) → i < length xs1 → in_hole g.spans i ≡ not (is_covered ps (i / 8))
  grown_holes i h = grind (arith, cases_lt, or-false, beyond)

  covered : (i : ℕ) → holds p (8 * (i / 8)) ≡ is_within p.start end i
  covered i = grind (arith, p, common_steps, nat_tests, shaped, end_is)

  reach : end_of p ≤ end
  reach = omega (arith, end_is)

  outside_hole : (k : ℕ) → in_hole u.spans k ≡ true → slice_index xs3 k ≡ slice_index xs2 k
  outside_hole = outside_after p.start (end_of p) end xs1 xs2 xs3 g.spans hole2 reach u w

  -- a byte that the fragment doesn't hold, in a block that is covered now
  other_byte : (i : ℕ) → i < length xs1 → (in_gap : Bool) → in_hole g.spans i ≡ in_gap
      → is_covered (p ∷ ps) (i / 8) ≡ true → slice_index xs2 i ≡ byte_at ps i
  other_byte i h in_gap is cov = grind (arith, grown_holes, covered, or_first, byte_at-uncovered, beyond)

  byte_now : (i : ℕ) → i < length xs1 → (here : Bool) → holds p i ≡ here → is_covered (p ∷ ps) (i / 8) ≡ true
      → slice_index xs3 i ≡ byte_at (p ∷ ps) i
  byte_now i h true is cov = grind (arith, within-below)
  byte_now i h false is cov = grind (arith, unchanged, other_byte)

  pub Maps-put : Maps xs3 hole2 (p ∷ ps)
  Maps-put = grind (arith, IsChain-apart, outside_hole, sized, grown_holes, covered, byte_now)
