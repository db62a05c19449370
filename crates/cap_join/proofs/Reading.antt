-- Holes that lie below a fragment, which are read only.
use Rattle.std.proofs.Common.{◌≡◌, ℕ, ◌+◌, ◌<◌, ◌≤◌, Bool, true, List, [], ◌∷◌, length, refl, sym, ◌∙◌, ap, subst}
use Rattle.std.proofs.Common.{arith, ◌&&◌, ◌||◌, not, inl, inr}
use Rattle.std.specs.Prelude.{slice_index}
use Rattle.cap_join.specs.Holes.{Span, is_within, in_hole, no_hole, word_at, IsHole, IsChain, HasHoles, BeginsHole}
use Rattle.cap_join.specs.Holes.{ChangesWithin, Punched, Continues, Appended}
use Rattle.cap_join.proofs.Chains.{word_at-same, IsHole-block, IsChain-same, IsChain-lower, in_hole-below}
use Rattle.cap_join.proofs.Punching.{FirstHole, or_false_left, or_false_right, or_assoc, unchanged}

-- What a walk along some holes knows of the one that it reached: it is one of them, and so are those after it.
pub record Reached (xs : List ℕ) (below last high : ℕ) (ss : List Span) : Type 0 where
  pub tail : List Span
  pub low : ℕ
  pub chain : IsChain xs low high (word_at xs (last + 4)) tail
  pub begins : BeginsHole below last ss
  pub further : (x : ℕ) → BeginsHole below x tail → BeginsHole below x ss

pub Reached-first : (xs : List ℕ) (below at low high : ℕ) (ss : List Span) → at < no_hole → word_at xs at ≤ below
    → IsChain xs low high at ss → Reached xs below at high ss
Reached-first xs below at low high [] near whole chain = absurd (omega (arith, chain))
Reached-first xs below at low high (s ∷ ss) near whole chain = grind arith

pub Reached-next : (xs : List ℕ) (below last next high : ℕ) (ss : List Span) → next ≡ word_at xs (last + 4)
    → next < no_hole → word_at xs next ≤ below
    → Reached xs below last high ss → Reached xs below next high ss
Reached-next xs below last next high ss is near whole r =
    by r.tail (subst (λ (n : ℕ). IsChain xs r.low high n r.tail) (sym is) r.chain) r.further
  where
    by : (tail : List Span) → IsChain xs r.low high next tail
        → ((x : ℕ) → BeginsHole below x tail → BeginsHole below x ss)
        → Reached xs below next high ss
    by [] chain further = absurd (omega (arith, chain))
    by (s ∷ tail) chain further = grind arith

-- a hole that lies below a place lies above the chain's lowest
Begins-low : (xs : List ℕ) (below last low high at : ℕ) (ss : List Span) → IsChain xs low high at ss
    → BeginsHole below last ss → low ≤ below
Begins-low xs below last low high at [] chain b = absurd b
Begins-low xs below last low high at (s ∷ ss) chain (inl p) = grind arith
Begins-low xs below last low high at (s ∷ ss) chain (inr b) =
    grind (arith, Begins-low xs below last s.to high (word_at xs (s.from + 4)) ss chain.1 b)

-- the holes from one of them on
pub HasHoles-begins : (xs : List ℕ) (below last low high at : ℕ) (ss : List Span) → IsChain xs low high at ss
    → BeginsHole below last ss → HasHoles xs high last
HasHoles-begins xs below last low high at [] chain b = absurd b
HasHoles-begins xs below last low high at (s ∷ ss) chain (inl p) = record {
  spans = s ∷ ss;
  chain = subst (λ (n : ℕ). IsChain xs 0 high n (s ∷ ss)) (chain.0.here ∙ p.0)
      (IsChain-lower xs low 0 high at (s ∷ ss) (omega arith) chain);
}
HasHoles-begins xs below last low high at (s ∷ ss) chain (inr b) =
    HasHoles-begins xs below last s.to high (word_at xs (s.from + 4)) ss chain.1 b

-- what is read only stays
same_words : (xs ys : List ℕ) (s : Span) (low : ℕ) → s.from + 8 ≤ low
    → ((k : ℕ) → k < low → slice_index ys k ≡ slice_index xs k)
    → (word_at ys s.from ≡ word_at xs s.from) × (word_at ys (s.from + 4) ≡ word_at xs (s.from + 4))
same_words xs ys s low block same = (
  word_at-same xs ys s.from (λ k p q. same k (omega arith)),
  word_at-same xs ys (s.from + 4) (λ k p q. same k (omega arith)),
)

below_range : (f t a b i : ℕ) (x y : Bool) → t ≤ a → x ≡ (y && not (is_within a b i))
    → (is_within f t i || x) ≡ ((is_within f t i || y) && not (is_within a b i))
below_range f t a b i x y le e = grind arith

-- a hole below the range
Punched-skip : (a b low high at : ℕ) (s : Span) (ss : List Span) (old new : List ℕ) → IsHole old low high at s
    → s.to ≤ a → IsChain old s.to high (word_at old (s.from + 4)) ss
    → Punched a b old ss s.to high (word_at old (s.from + 4)) new → Punched a b old (s ∷ ss) low high at new
Punched-skip a b low high at s ss old new hole below tail behind =
    let same : (k : ℕ) → k < s.to → slice_index new k ≡ slice_index old k =
    λ k p. behind.kept_bytes k (in_hole-below old s.to high (word_at old (s.from + 4)) ss k tail p) in
    let words = same_words old new s s.to (IsHole-block old low high at s hole) same in
    record {
      length_is = behind.length_is;
      spans = s ∷ behind.spans;
      chain = grind arith;
      holes = λ i. below_range s.from s.to a b i (in_hole behind.spans i) (in_hole ss i) below (behind.holes i);
      kept_bytes = λ i p. behind.kept_bytes i (or_false_right (is_within s.from s.to i) (in_hole ss i) p);
      zeros = λ i p q. behind.zeros i (in_tail s.from s.to i (in_hole ss i) below p q) q;
    }
  where
    in_tail : (f t i : ℕ) (x : Bool) → t ≤ a → (is_within f t i || x) ≡ true → is_within a b i ≡ true → x ≡ true
    in_tail f t i x le p q = grind arith

-- a chain's first hole is one of its holes
begins_here : (xs : List ℕ) (low high at : ℕ) (ss : List Span) → at < no_hole → IsChain xs low high at ss
    → BeginsHole high at ss
begins_here xs low high at [] near chain = absurd (omega (arith, chain))
begins_here xs low high at (s ∷ ss) near chain = inl (sym chain.0.here, chain.0.within)

-- What is left once a range is filled, if one of the holes that are left is known.
pub record PunchedFrom (a b : ℕ) (old : List ℕ) (ss : List Span) (low high at last : ℕ) (new : List ℕ) : Type 0 where
  pub punched : Punched a b old ss low high at new
  pub begins : BeginsHole high last punched.spans

PunchedFrom-skip : (a b low high at last : ℕ) (s : Span) (ss : List Span) (old new : List ℕ) → IsHole old low high at s
    → s.to ≤ a → IsChain old s.to high (word_at old (s.from + 4)) ss
    → PunchedFrom a b old ss s.to high (word_at old (s.from + 4)) last new
    → PunchedFrom a b old (s ∷ ss) low high at last new
unfolding Punched-skip
PunchedFrom-skip a b low high at last s ss old new hole below tail behind =
    record {
      punched = Punched-skip a b low high at s ss old new hole below tail behind.punched;
      begins = inr behind.begins;
    }

-- A range is filled from the last hole below it on, which stays.
pub Punched-behind : (a b low high at last : ℕ) (ss : List Span) (old new : List ℕ) → last < no_hole
    → IsChain old low high at ss → BeginsHole a last ss
    → ((low : ℕ) (ss : List Span) → IsChain old low high last ss → Punched a b old ss low high last new)
    → PunchedFrom a b old ss low high at last new
Punched-behind a b low high at last [] old new near chain begins from = absurd begins
Punched-behind a b low high at last (s ∷ ss) old new near chain (inl p) from =
    let here : at ≡ last = chain.0.here ∙ p.0 in
    let q : Punched a b old (s ∷ ss) low high last new =
    from low (s ∷ ss) (subst (λ (n : ℕ). IsChain old low high n (s ∷ ss)) here chain) in
    subst (λ (n : ℕ). PunchedFrom a b old (s ∷ ss) low high n last new) (sym here)
    (record { punched = q; begins = begins_here new low high last q.spans near q.chain })
Punched-behind a b low high at last (s ∷ ss) old new near chain (inr begins) from =
    PunchedFrom-skip a b low high at last s ss old new chain.0
    (Begins-low old a last s.to high (word_at old (s.from + 4)) ss chain.1 begins) chain.1
    (Punched-behind a b s.to high (word_at old (s.from + 4)) last ss old new near chain.1 begins from)

-- a hole before the last one
Appended-skip : (low high at : ℕ) (s : Span) (ss : List Span) (old new : List ℕ) → high ≤ length old
    → IsHole old low high at s → IsChain old s.to high (word_at old (s.from + 4)) ss
    → Appended old ss s.to high (word_at old (s.from + 4)) new → Appended old (s ∷ ss) low high at new
Appended-skip low high at s ss old new short hole tail behind =
    let within : s.to ≤ high = hole.within in
    let same : (k : ℕ) → k < s.to → slice_index new k ≡ slice_index old k =
    λ k p. behind.kept_bytes k (omega arith) (in_hole-below old s.to high (word_at old (s.from + 4)) ss k tail p) in
    let words = same_words old new s s.to (IsHole-block old low high at s hole) same in
    record {
      length_is = behind.length_is;
      spans = s ∷ behind.spans;
      chain = grind arith;
      holes = λ i. ap (λ (x : Bool). is_within s.from s.to i || x) (behind.holes i)
          ∙ or_assoc (is_within s.from s.to i) (in_hole ss i) (is_within high (length old) i);
      kept_bytes = λ i p q. behind.kept_bytes i p (or_false_right (is_within s.from s.to i) (in_hole ss i) q);
    }

-- The same with a hole added after them.
pub record AppendedFrom (old : List ℕ) (ss : List Span) (low high at last : ℕ) (new : List ℕ) : Type 0 where
  pub appended : Appended old ss low high at new
  pub begins : BeginsHole (length old) last appended.spans

AppendedFrom-skip : (low high at last : ℕ) (s : Span) (ss : List Span) (old new : List ℕ) → high ≤ length old
    → IsHole old low high at s → IsChain old s.to high (word_at old (s.from + 4)) ss
    → AppendedFrom old ss s.to high (word_at old (s.from + 4)) last new → AppendedFrom old (s ∷ ss) low high at last new
unfolding Appended-skip
AppendedFrom-skip low high at last s ss old new short hole tail behind =
    record {
      appended = Appended-skip low high at s ss old new short hole tail behind.appended;
      begins = inr behind.begins;
    }

-- A hole is added after the last one, which stays.
pub Appended-behind : (below low high at last : ℕ) (ss : List Span) (old new : List ℕ) → last < no_hole
    → high ≤ length old → low ≤ high → IsChain old low high at ss → BeginsHole below last ss
    → ((low : ℕ) (ss : List Span) → low ≤ high → IsChain old low high last ss → Appended old ss low high last new)
    → AppendedFrom old ss low high at last new
Appended-behind below low high at last [] old new near short le chain begins from = absurd begins
Appended-behind below low high at last (s ∷ ss) old new near short le chain (inl p) from =
    let here : at ≡ last = chain.0.here ∙ p.0 in
    let q : Appended old (s ∷ ss) low high last new =
    from low (s ∷ ss) le (subst (λ (n : ℕ). IsChain old low high n (s ∷ ss)) here chain) in
    subst (λ (n : ℕ). AppendedFrom old (s ∷ ss) low high n last new) (sym here)
    (record { appended = q; begins = begins_here new low (length old) last q.spans near q.chain })
Appended-behind below low high at last (s ∷ ss) old new near short le chain (inr begins) from =
    search (
      Appended-behind below s.to high (word_at old (s.from + 4)) last ss old new near short chain.0.within chain.1
          begins from,
      AppendedFrom-skip,
    )

-- a hole that lies in the range whole is cleared
Punched-covered : (a b low high at : ℕ) (s : Span) (ss : List Span) (old mid new : List ℕ) (result : ℕ)
    → IsHole old low high at s → a ≤ s.from → s.to ≤ b → IsChain old s.to high (word_at old (s.from + 4)) ss
    → ChangesWithin s.from s.to old mid → ((i : ℕ) → s.from ≤ i → i < s.to → slice_index mid i ≡ 0)
    → Punched a b mid ss s.to high result new → Punched a b old (s ∷ ss) low high result new
Punched-covered a b low high at s ss old mid new result hole above below tail cleared zeros behind =
    let after : low ≤ s.from = hole.after in
    let some : s.from < s.to = hole.some in
    record {
      length_is = behind.length_is ∙ cleared.length_is;
      spans = behind.spans;
      chain = IsChain-lower new s.to low high result behind.spans (omega arith) behind.chain;
      holes = λ i. behind.holes i ∙ sym (in_range s.from s.to i (in_hole ss i) above below);
      kept_bytes = λ i p. behind.kept_bytes i (or_false_right (is_within s.from s.to i) (in_hole ss i) p)
          ∙ unchanged s.from s.to old mid cleared i (or_false_left (is_within s.from s.to i) (in_hole ss i) p);
      zeros = λ i p q. zero i (is_within s.from s.to i) refl p q;
    }
  where
    in_range : (f t i : ℕ) (x : Bool) → a ≤ f → t ≤ b
        → ((is_within f t i || x) && not (is_within a b i)) ≡ (x && not (is_within a b i))
    in_range f t i x le ge = grind arith

    zero : (i : ℕ) (t : Bool) → is_within s.from s.to i ≡ t → (t || in_hole ss i) ≡ true → is_within a b i ≡ true
        → slice_index new i ≡ 0
    zero i t here p q = grind arith

-- one more hole was cleared
pub Continues-more : (a b at first end next : ℕ) (old cur mid : List ℕ) → Continues a b old at cur first
    → first < no_hole → end ≡ word_at cur first → a ≤ first → end ≤ b
    → next ≡ word_at cur (first + 4) → ChangesWithin first end cur mid
    → ((i : ℕ) → first ≤ i → i < end → slice_index mid i ≡ 0) → Continues a b old at mid next
Continues-more a b at first end next old cur mid so_far near end_is above below next_is cleared zeros =
    λ result new punched. so_far result new (λ low ss chain. by result new punched low ss chain)
  where
    by : (result : ℕ) (new : List ℕ) → ((low : ℕ) (ss : List Span) → IsChain mid low (length mid) next ss
        → Punched a b mid ss low (length mid) result new)
        → (low : ℕ) (ss : List Span) → IsChain cur low (length cur) first ss
        → Punched a b cur ss low (length cur) result new
    by result new punched low [] chain = absurd (omega (arith, chain))
    by result new punched low (s ∷ ss) chain =
        let hole = chain.0 in
        let here : first ≡ s.from = hole.here in
        let to_is : end ≡ s.to = end_is ∙ ap (word_at cur) here ∙ hole.end_is in
        let size : length mid ≡ length cur = cleared.length_is in
        let next_here : word_at cur (s.from + 4) ≡ next = sym (next_is ∙ ap (λ (n : ℕ). word_at cur (n + 4)) here) in
        let tail : IsChain mid s.to (length mid) next ss =
        subst (λ (n : ℕ). IsChain mid s.to n next ss) (sym size)
        (subst (λ (n : ℕ). IsChain mid s.to (length cur) n ss) next_here
        (IsChain-same cur mid s.to (length cur) (word_at cur (s.from + 4)) ss
        (λ k p. cleared.above k (omega arith)) chain.1)) in
        Punched-covered a b low (length cur) first s ss cur mid new result hole (omega arith) (omega arith) chain.1
        (record {
          length_is = size;
          below = λ i p. cleared.below i (omega arith);
          above = λ i p. cleared.above i (omega arith);
        })
        (λ i p q. zeros i (omega arith) (omega arith))
        (subst (λ (n : ℕ). Punched a b mid ss s.to n result new) size (punched s.to ss tail))

-- the holes after one that is cleared
pub HasHoles-cleared : (cur mid : List ℕ) (first end next high : ℕ) → FirstHole cur high first → HasHoles cur high first
    → first < no_hole → end ≡ word_at cur first → next ≡ word_at cur (first + 4)
    → ChangesWithin first end cur mid → HasHoles mid high next
HasHoles-cleared cur mid first end next high f h near end_is next_is cleared = by h.spans h.chain
  where
    by : (ss : List Span) → IsChain cur 0 high first ss → HasHoles mid high next
    by [] chain = absurd (omega (arith, chain))
    by (s ∷ ss) chain =
        let here : first ≡ s.from = chain.0.here in
        let to_is : end ≡ s.to = end_is ∙ ap (word_at cur) here ∙ chain.0.end_is in
        let next_here : word_at cur (s.from + 4) ≡ next = sym (next_is ∙ ap (λ (n : ℕ). word_at cur (n + 4)) here) in
        record {
          spans = ss;
          chain = subst (λ (n : ℕ). IsChain mid 0 high n ss) next_here
              (IsChain-lower mid s.to 0 high (word_at cur (s.from + 4)) ss (omega arith)
              (IsChain-same cur mid s.to high (word_at cur (s.from + 4)) ss
              (λ k p. cleared.above k (omega arith)) chain.1));
        }
