-- Chains of holes under writes.
use Rattle.std.proofs.Common.{◌≡◌, ℕ, ◌+◌, ◌%◌, ◌<◌, ◌≤◌, false, List, [], ◌∷◌, refl, sym, subst, arith, ◌||◌}
use Rattle.std.proofs.lemmas.List.{get_or-drop}
use Rattle.std.specs.Prelude.{slice_index}
use Rattle.cap_bytes.specs.Number.{number}
use Rattle.cap_join.specs.Holes.{Span, is_within, in_hole, word_at, IsHole, IsChain, kept_hole}

-- a number stays if its four bytes do
pub word_at-same : (xs ys : List ℕ) (at : ℕ) → ((k : ℕ) → at ≤ k → k < at + 4 → slice_index ys k ≡ slice_index xs k)
    → word_at ys at ≡ word_at xs at
unfolding word_at number
word_at-same xs ys at same = grind (arith, get_or-drop)

-- a hole takes a block at least
pub IsHole-block : (bytes : List ℕ) (low high at : ℕ) (s : Span) → IsHole bytes low high at s → s.from + 8 ≤ s.to
IsHole-block bytes low high at s h = omega (arith, h.some, h.begins, h.ends)

-- a chain stays if the bytes from its lowest place on do
pub IsChain-same : (xs ys : List ℕ) (low high at : ℕ) (ss : List Span)
    → ((k : ℕ) → low ≤ k → slice_index ys k ≡ slice_index xs k) → IsChain xs low high at ss → IsChain ys low high at ss
IsChain-same xs ys low high at [] same h = h
IsChain-same xs ys low high at (s ∷ ss) same h =
    grind (arith, IsChain-same xs ys s.to high (word_at xs (s.from + 4)) ss, word_at-same)

pub IsChain-lower : (xs : List ℕ) (low lower high at : ℕ) (ss : List Span) → lower ≤ low → IsChain xs low high at ss
    → IsChain xs lower high at ss
IsChain-lower xs low lower high at [] le h = h
IsChain-lower xs low lower high at (s ∷ ss) le h = grind arith

pub IsChain-higher : (xs : List ℕ) (low high higher at : ℕ) (ss : List Span) → high ≤ higher → IsChain xs low high at ss
    → IsChain xs low higher at ss
IsChain-higher xs low high higher at [] le h = h
IsChain-higher xs low high higher at (s ∷ ss) le h =
    grind (arith, IsChain-higher xs s.to high higher (word_at xs (s.from + 4)) ss le h.1)

-- no hole lies below a chain's lowest place
pub in_hole-below : (xs : List ℕ) (low high at : ℕ) (ss : List Span) (i : ℕ) → IsChain xs low high at ss → i < low
    → in_hole ss i ≡ false
in_hole-below xs low high at [] i h below = refl
in_hole-below xs low high at (s ∷ ss) i h below =
    grind (arith, in_hole-below xs s.to high (word_at xs (s.from + 4)) ss i h.1 (omega arith))

-- nor from its highest on
pub in_hole-above : (xs : List ℕ) (low high at : ℕ) (ss : List Span) (i : ℕ) → IsChain xs low high at ss → high ≤ i
    → in_hole ss i ≡ false
in_hole-above xs low high at [] i h above = refl
in_hole-above xs low high at (s ∷ ss) i h above =
    grind (arith, in_hole-above xs s.to high (word_at xs (s.from + 4)) ss i h.1 above)

-- what is kept of a hole
pub in_hole-kept : (from to : ℕ) (ss : List Span) (i : ℕ)
    → in_hole (kept_hole from to ss) i ≡ (is_within from to i || in_hole ss i)
in_hole-kept from to ss i = grind arith

-- a described hole in front of a chain
pub kept-chain : (from to next low middle high : ℕ) (xs ys : List ℕ) (ss : List Span) → from < to → from % 8 ≡ 0
    → to % 8 ≡ 0
    → word_at ys from ≡ to → word_at ys (from + 4) ≡ next → ((k : ℕ) → to ≤ k → slice_index ys k ≡ slice_index xs k)
    → low ≤ from → to ≤ middle → to ≤ high → IsChain xs middle high next ss
    → IsChain ys low high from (record { from = from; to = to } ∷ ss)
kept-chain from to next low middle high xs ys ss some begins ends end_is next_is same after le within chain =
    let rest : IsChain ys to high next ss =
    IsChain-lower ys middle to high next ss le (IsChain-same xs ys middle high next ss
    (λ k p. same k (omega arith)) chain) in (
      record {
        here = refl;
        after = after;
        some = some;
        within = within;
        begins = begins;
        ends = ends;
        end_is = end_is;
      },
      subst (λ (n : ℕ). IsChain ys to high n ss) (sym next_is) rest,
    )

pub kept-some : (from to : ℕ) (ss : List Span) → from < to → kept_hole from to ss ≡ record { from = from; to = to } ∷ ss
kept-some from to ss some = grind arith
