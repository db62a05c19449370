-- The cursor of a chain of holes, which is one of them.
use Rattle.std.proofs.Common.{◌≡◌, ℕ, ◌+◌, ◌<◌, ◌≤◌, List, [], ◌∷◌, length, refl, sym, ◌∙◌, subst, arith, inl, inr}
use Rattle.cap_join.specs.Holes.{Span, no_hole, word_at, IsChain, BeginsHole, HasCursor, IsBefore, ChangesWithin}
use Rattle.cap_join.specs.Holes.{Punched}
use Rattle.cap_join.proofs.Growing.{IsChain-apart}
use Rattle.cap_join.proofs.Mapping.{outside_after}

-- bytes have one chain at most from a place on
pub IsChain-unique : (xs : List ℕ) (low lower high higher at : ℕ) (ss ts : List Span) → high < no_hole
    → higher < no_hole → IsChain xs low high at ss → IsChain xs lower higher at ts → ss ≡ ts
IsChain-unique xs low lower high higher at [] [] near far a b = refl
IsChain-unique xs low lower high higher at [] (t ∷ ts) near far a b = cc
IsChain-unique xs low lower high higher at (s ∷ ss) [] near far a b = cc
IsChain-unique xs low lower high higher at (s ∷ ss) (t ∷ ts) near far a b =
    grind (arith, IsChain-unique xs s.to t.to high higher (word_at xs (t.from + 4)) ss ts near far)

pub Begins-wider : (below wider at : ℕ) (ss : List Span) → below ≤ wider → BeginsHole below at ss
    → BeginsHole wider at ss
Begins-wider below wider at [] le h = h
Begins-wider below wider at (s ∷ ss) le (inl p) = let whole : s.to ≤ below = p.1 in inl (p.0, omega arith)
Begins-wider below wider at (s ∷ ss) le (inr h) = inr (Begins-wider below wider at ss le h)

-- a hole lies below the place that its end doesn't pass
pub Begins-below : (xs : List ℕ) (below low high at cursor : ℕ) (ss : List Span) → IsChain xs low high at ss
    → word_at xs cursor ≤ below → BeginsHole high cursor ss → BeginsHole below cursor ss
Begins-below xs below low high at cursor [] chain le h = h
Begins-below xs below low high at cursor (s ∷ ss) chain le (inl p) = grind arith
Begins-below xs below low high at cursor (s ∷ ss) chain le (inr h) =
    inr (Begins-below xs below s.to high (word_at xs (s.from + 4)) cursor ss chain.1 le h)

-- it has a block
pub Begins-block : (xs : List ℕ) (low high at cursor : ℕ) (ss : List Span) → IsChain xs low high at ss
    → BeginsHole high cursor ss → cursor + 8 ≤ high
Begins-block xs low high at cursor [] chain h = absurd h
Begins-block xs low high at cursor (s ∷ ss) chain (inl p) = grind arith
Begins-block xs low high at cursor (s ∷ ss) chain (inr h) =
    Begins-block xs s.to high (word_at xs (s.from + 4)) cursor ss chain.1 h

-- one of the holes from one of them on
pub Begins-trans : (xs : List ℕ) (below low high at start last : ℕ) (ss : List Span) → IsChain xs low high at ss
    → BeginsHole below start ss
    → ((low : ℕ) (ss : List Span) → IsChain xs low high start ss → BeginsHole below last ss) → BeginsHole below last ss
Begins-trans xs below low high at start last [] chain begins from = begins
Begins-trans xs below low high at start last (s ∷ ss) chain (inl p) from =
    from low (s ∷ ss) (subst (λ (n : ℕ). IsChain xs low high n (s ∷ ss)) (chain.0.here ∙ p.0) chain)
Begins-trans xs below low high at start last (s ∷ ss) chain (inr begins) from =
    grind (arith, Begins-trans xs below s.to high (word_at xs (s.from + 4)) start last ss chain.1 begins from)

-- a hole of one chain is one of every chain
pub HasCursor-marked : (xs : List ℕ) (high first cursor : ℕ) (ss : List Span) → high < no_hole
    → IsChain xs 0 high first ss → BeginsHole high cursor ss → HasCursor xs high first cursor
HasCursor-marked xs high first cursor ss near chain begins = grind (arith, IsChain-unique)

-- data was copied to where no hole is
pub HasCursor-copied : (a e b first cursor : ℕ) (old mid new : List ℕ) (ss : List Span) → e ≤ b → length mid < no_hole
    → Punched a b old ss 0 (length old) first mid → ChangesWithin a e mid new
    → HasCursor mid (length mid) first cursor → HasCursor new (length new) first cursor
HasCursor-copied a e b first cursor old mid new ss le near u w is = λ ts chain lt.
    let size : length new ≡ length mid = w.length_is in
    let was : IsChain mid 0 (length mid) first u.spans =
    subst (λ (n : ℕ). IsChain mid 0 n first u.spans) (sym u.length_is) u.chain in
    let now : IsChain new 0 (length mid) first u.spans =
    IsChain-apart mid new 0 (length mid) first u.spans (outside_after a e b old mid new ss first le u w) was in
    subst (λ (n : ℕ). BeginsHole n cursor ts) (sym size)
    (subst (BeginsHole (length mid) cursor) (IsChain-unique new 0 0 (length mid) (length new) first u.spans ts near
    (omega arith) now chain) (is u.spans was lt))

pub IsBefore-first : (xs : List ℕ) (first below : ℕ) → below < no_hole → first < below → word_at xs first ≤ below
    → IsBefore xs first below first
IsBefore-first xs first below near here whole = record {
  here = here;
  whole = whole;
  begins = λ high ts far chain. by high ts chain;
}
  where
    by : (high : ℕ) (ts : List Span) → IsChain xs 0 high first ts → BeginsHole below first ts
    by high [] chain = absurd (omega (arith, chain))
    by high (t ∷ ts) chain = grind arith
