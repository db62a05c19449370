-- What is left of a chain of holes once a range is filled, and once a hole is added after them.
use Rattle.std.proofs.Common.{◌≡◌, ℕ, ◌+◌, ◌%◌, ◌<◌, ◌≤◌, Bool, true, false, List, [], ◌∷◌, length, refl, sym, ◌∙◌, ap}
use Rattle.std.proofs.Common.{subst, arith, max, min, ◌&&◌, ◌||◌, not}
use Rattle.std.specs.Prelude.{slice_index}
use Rattle.std.proofs.Math.Bool.{or-false}
use Rattle.cap_join.specs.Holes.{Span, is_within, in_hole, no_hole, word_at, IsHole, IsChain, HasHoles, ChangesWithin}
use Rattle.cap_join.specs.Holes.{kept_hole, Punched, Appended}
use Rattle.cap_join.proofs.Changes.{ChangesWithin-trans, ChangesWithin-wider}
use Rattle.cap_join.proofs.Chains.{IsHole-block, IsChain-same, IsChain-lower, in_hole-below, in_hole-kept}

-- What the first of some holes says.
pub record FirstHole (xs : List ℕ) (high at : ℕ) : Type 0 where
  pub block : at + 8 ≤ word_at xs at
  pub within : word_at xs at ≤ high
  pub begins : at % 8 ≡ 0
  pub ends : word_at xs at % 8 ≡ 0
  pub rest : HasHoles xs high (word_at xs (at + 4))
  pub rises : at < word_at xs (at + 4)

next_above : (xs : List ℕ) (low high at from : ℕ) (ss : List Span) → from < low → from < no_hole
    → IsChain xs low high at ss → from < at
next_above xs low high at from [] h k chain = omega (arith, chain)
next_above xs low high at from (s ∷ ss) h k chain = grind arith

first_hole : (xs : List ℕ) (low high at : ℕ) (ss : List Span) → IsChain xs low high at ss → at < no_hole
    → FirstHole xs high at
first_hole xs low high at [] chain h = absurd (omega (arith, chain))
first_hole xs low high at (s ∷ ss) chain h =
    let hole = chain.0 in
    let here : at ≡ s.from = hole.here in
    let end_is : word_at xs at ≡ s.to = ap (word_at xs) here ∙ hole.end_is in
    let next_is : word_at xs (at + 4) ≡ word_at xs (s.from + 4) = ap (λ (n : ℕ). word_at xs (n + 4)) here in
    let block : s.from + 8 ≤ s.to = IsHole-block xs low high at s hole in
    let above : s.from < word_at xs (s.from + 4) =
    next_above xs s.to high (word_at xs (s.from + 4)) s.from ss (omega arith) (omega arith) chain.1 in
    record {
      block = omega arith;
      within = omega (arith, hole.within);
      begins = ap (λ (n : ℕ). n % 8) here ∙ hole.begins;
      ends = ap (λ (n : ℕ). n % 8) end_is ∙ hole.ends;
      rest = record {
        spans = ss;
        chain = subst (λ (n : ℕ). IsChain xs 0 high n ss) (sym next_is)
            (IsChain-lower xs s.to 0 high (word_at xs (s.from + 4)) ss (omega arith) chain.1);
      };
      rises = omega arith;
    }

pub HasHoles-first : (xs : List ℕ) (high at : ℕ) → HasHoles xs high at → at < no_hole → FirstHole xs high at
HasHoles-first xs high at h = first_hole xs 0 high at h.spans h.chain

-- a chain begins at its first hole
pub IsChain-here : (xs : List ℕ) (low high at : ℕ) (ss : List Span) → IsChain xs low high at ss
    → IsChain xs at high at ss
IsChain-here xs low high at [] h = h
IsChain-here xs low high at (s ∷ ss) h =
    let hole = h.0 in
    let here : at ≡ s.from = hole.here in (
      record {
        here = hole.here;
        after = omega arith;
        some = hole.some;
        within = hole.within;
        begins = hole.begins;
        ends = hole.ends;
        end_is = hole.end_is;
      },
      h.1,
    )

pub within-below : (a b i : ℕ) → is_within a b i ≡ true → i < b
within-below a b i h = grind arith

-- nothing is filled if the holes begin after the range
pub Punched-none : (a b low high at : ℕ) (xs : List ℕ) (ss : List Span) → b ≤ at → IsChain xs low high at ss
    → Punched a b xs ss low high at xs
Punched-none a b low high at xs ss h chain = grind (arith, within-below, in_hole-below, IsChain-here)

-- a place of a hole that was cut, or of the holes after it
cut_place : (a b f t left i : ℕ) (x : Bool) → f < t → a < b → f < b → left ≡ min t a → (x ≡ true → t ≤ i)
    → (is_within f left i || (is_within b t i || (x && not (is_within a b i))))
    ≡ ((is_within f t i || x) && not (is_within a b i))
cut_place a b f t left i x some range near is behind = grind arith

pub or_false_left : (x y : Bool) → (x || y) ≡ false → x ≡ false
or_false_left x y h = grind arith

pub or_false_right : (x y : Bool) → (x || y) ≡ false → y ≡ false
or_false_right x y h = grind arith

-- bytes outside the range that changes stay
pub unchanged : (f t : ℕ) (old new : List ℕ) → ChangesWithin f t old new → (i : ℕ) → is_within f t i ≡ false
    → slice_index new i ≡ slice_index old i
unchanged f t old new c i h = grind arith

-- a hole's places are not below the chain
above_low : (xs : List ℕ) (low high at : ℕ) (ss : List Span) (i : ℕ) → IsChain xs low high at ss
    → in_hole ss i ≡ true → low ≤ i
above_low xs low high at ss i chain p = grind (arith, in_hole-below)

-- a place that was filled is 0
zero_place : (a b at end from to left i : ℕ) (x : Bool) (mid1 mid2 mid3 new : List ℕ) (t : Bool)
    → is_within at end i ≡ t
    → from ≡ max at a → to ≡ min end b → left ≡ min end a → at < end → at < b
    → ChangesWithin from to mid1 mid2 → ((i : ℕ) → from ≤ i → i < to → slice_index mid2 i ≡ 0)
    → ChangesWithin b end mid2 mid3 → ChangesWithin at left mid3 new
    → (x ≡ true → end ≤ i) → (x ≡ true → slice_index mid1 i ≡ 0)
    → (t || x) ≡ true → is_within a b i ≡ true → slice_index new i ≡ 0
zero_place a b at end from to left i x mid1 mid2 mid3 new t here from_is to_is left_is some near cleared zeros
    right_within left_within behind was p q = grind arith

-- What one hole and the holes after it are once a range is filled: the holes after it first, then the filled part is
-- cleared, then what is left on the right and on the left is described.
module _ (a b low high at end next rest right result : ℕ) (s : Span) (ss : List Span) (old mid1 mid2 mid3 new : List ℕ)
    (from to left : ℕ) where
  pub Punched-hole : a < b → at < b → IsHole old low high at s → end ≡ s.to → IsChain old s.to high next ss
      → Punched a b old ss s.to high rest mid1
      → from ≡ max at a → to ≡ min end b → left ≡ min end a
      → ChangesWithin from to mid1 mid2 → ((i : ℕ) → from ≤ i → i < to → slice_index mid2 i ≡ 0)
      → ChangesWithin b end mid2 mid3
      → ((low middle high : ℕ) (ss : List Span) → low ≤ b → low ≤ middle → end ≤ middle → end ≤ high
      → IsChain mid2 middle high rest ss → IsChain mid3 low high right (kept_hole b end ss))
      → ChangesWithin at left mid3 new
      → ((low middle high : ℕ) (ss : List Span) → low ≤ at → low ≤ middle → left ≤ middle → left ≤ high
      → IsChain mid3 middle high right ss → IsChain new low high result (kept_hole at left ss))
      → Punched a b old (s ∷ ss) low high result new
  Punched-hole range near hole end_is tail behind from_is to_is left_is cleared zeros right_within right_chain
      left_within left_chain =
      let here : at ≡ s.from = hole.here in
      let after : low ≤ s.from = hole.after in
      let some : s.from < s.to = hole.some in
      let within : s.to ≤ high = hole.within in
      let chain2 : IsChain mid2 s.to high rest behind.spans =
      IsChain-same mid1 mid2 s.to high rest behind.spans (λ k p. cleared.above k (omega arith)) behind.chain in
      let chain3 : IsChain mid3 (max at left) high right (kept_hole b end behind.spans) =
      right_chain (max at left) s.to high behind.spans (omega arith) (omega arith) (omega arith)
      (omega arith) chain2 in
      let chain4 : IsChain new low high result (kept_hole at left (kept_hole b end behind.spans)) =
      left_chain low (max at left) high (kept_hole b end behind.spans) (omega arith) (omega arith) (omega arith)
      (omega arith) chain3 in
      let later : ChangesWithin at end mid1 new =
      ChangesWithin-trans at end mid1 mid3 new
      (ChangesWithin-trans at end mid1 mid2 mid3 (ChangesWithin-wider from to at end mid1 mid2 (omega arith)
      (omega arith) cleared) (ChangesWithin-wider b end at end mid2 mid3 (omega arith) (omega arith) right_within))
      (ChangesWithin-wider at left at end mid3 new (omega arith) (omega arith) left_within) in
      let span : (i : ℕ) → is_within at end i ≡ is_within s.from s.to i = λ i j. is_within (here j) (end_is j) i in
      let outside_hole : (i : ℕ) → is_within s.from s.to i ≡ false → is_within at end i ≡ false = λ i p. span i ∙ p in
      let holes : (i : ℕ) → (is_within at left i || (is_within b end i || (in_hole ss i && not (is_within a b i))))
      ≡ (in_hole (s ∷ ss) i && not (is_within a b i)) =
      λ i. cut_place a b at end left i (in_hole ss i) (omega arith) range near left_is
      (λ p. subst (λ (n : ℕ). n ≤ i) (sym end_is) (above_low old s.to high next ss i tail p))
      ∙ ap (λ (x : Bool). (x || in_hole ss i) && not (is_within a b i)) (span i) in
      record {
        length_is = left_within.length_is ∙ (right_within.length_is ∙ (cleared.length_is ∙ behind.length_is));
        spans = kept_hole at left (kept_hole b end behind.spans);
        chain = chain4;
        holes = λ i. in_hole-kept at left (kept_hole b end behind.spans) i
            ∙ ap (λ (x : Bool). is_within at left i || x) (in_hole-kept b end behind.spans i
            ∙ ap (λ (x : Bool). is_within b end i || x) (behind.holes i)) ∙ holes i;
        kept_bytes = λ i p. unchanged at end mid1 new later i
            (outside_hole i (or_false_left (is_within s.from s.to i) (in_hole ss i) p))
            ∙ behind.kept_bytes i (or_false_right (is_within s.from s.to i) (in_hole ss i) p);
        zeros = λ i p q. zero_place a b at end from to left i (in_hole ss i) mid1 mid2 mid3 new
            (is_within s.from s.to i) (span i) from_is to_is left_is
            (omega arith) near cleared zeros right_within left_within
            (λ x. subst (λ (n : ℕ). n ≤ i) (sym end_is) (above_low old s.to high next ss i tail x))
            (λ x. behind.zeros i x q) p q;
      }

-- the lesser of two whole blocks' ends is one
pub min_block : (x y m : ℕ) → m ≡ min x y → x % 8 ≡ 0 → y % 8 ≡ 0 → m % 8 ≡ 0
min_block x y m is p q = grind arith

pub or_assoc : (x y z : Bool) → (x || (y || z)) ≡ ((x || y) || z)
or_assoc x y z = grind arith

-- the last hole
pub Appended-last : (low high at result : ℕ) (old new : List ℕ) (ss : List Span) → low ≤ high → high ≤ at
    → high < length old → length old < no_hole
    → IsChain old low high at ss
    → ChangesWithin high (length old) old new
    → ((low middle upper : ℕ) (ss : List Span) → low ≤ high → low ≤ middle → length old ≤ middle → length old ≤ upper
    → IsChain old middle upper no_hole ss → IsChain new low upper result (kept_hole high (length old) ss))
    → Appended old ss low high result new
Appended-last low high at result old new [] le past some short chain within described = record {
  length_is = within.length_is;
  spans = kept_hole high (length old) [];
  chain = described low (length old) (length old) [] le (omega arith) (omega arith) (omega arith) refl;
  holes = λ i. in_hole-kept high (length old) [] i ∙ or-false (is_within high (length old) i);
  kept_bytes = λ i p q. within.below i p;
}
Appended-last low high at result old new (s ∷ ss) le past some short chain within described = grind arith

-- one hole, and those after it with one more
pub Appended-hole : (low high at end next rest result : ℕ) (s : Span) (ss : List Span) (old mid new : List ℕ)
    → high < length old → IsHole old low high at s → end ≡ s.to → IsChain old s.to high next ss
    → Appended old ss s.to high rest mid
    → ChangesWithin at end mid new
    → ((low middle high : ℕ) (ss : List Span) → low ≤ at → low ≤ middle → end ≤ middle → end ≤ high
    → IsChain mid middle high rest ss → IsChain new low high result (kept_hole at end ss))
    → Appended old (s ∷ ss) low high result new
Appended-hole low high at end next rest result s ss old mid new some hole end_is tail behind within described =
    let here : at ≡ s.from = hole.here in
    let after : low ≤ s.from = hole.after in
    let one : s.from < s.to = hole.some in
    let inside : s.to ≤ high = hole.within in
    let span : (i : ℕ) → is_within at end i ≡ is_within s.from s.to i = λ i j. is_within (here j) (end_is j) i in
    record {
      length_is = within.length_is ∙ behind.length_is;
      spans = kept_hole at end behind.spans;
      chain = described low s.to (length old) behind.spans (omega arith) (omega arith) (omega arith)
          (omega arith) behind.chain;
      holes = λ i. grind (arith, in_hole-kept, or_assoc);
      kept_bytes = λ i p q. unchanged at end mid new within i (span i
          ∙ or_false_left (is_within s.from s.to i) (in_hole ss i) q)
          ∙ behind.kept_bytes i p (or_false_right (is_within s.from s.to i) (in_hole ss i) q);
    }
