-- The place of the lane whose item comes first, as it is looked for.
use Rattle.std.proofs.Common.{◌≡◌, ℕ, zero, suc, ◌<◌, ◌≤◌, Bool, List, length, get_or, cond, [], ◌∷◌, refl, sym, ap}
use Rattle.std.proofs.Common.{◌∙◌, subst, arith, Option, Some, None, Ok, true}
use Rattle.std.specs.Prelude.{IfSome}
use Rattle.std.proofs.lemmas.List.{length-map}
use Rattle.cap_merge.specs.declared.lanes.Lane.{Lane}
use Rattle.cap_merge.specs.inner.First.{Turn, lane_at, lane_turn, lane_turns, has_item, sooner_place, first_among}
use Rattle.cap_merge.specs.inner.First.{first_from, first_place}
use Rattle.cap_merge.specs.inner.Leading.{among-more}

sooner_within : (ts : List Turn) (o : Option ℕ) (place : ℕ) → IfSome o (λ n. n < place)
    → IfSome (sooner_place ts o place) (λ n. n < suc place)
sooner_within ts o place h = grind arith

among_within : (ts : List Turn) (count : ℕ) → IfSome (first_among ts count) (λ n. n < count)
unfolding first_from
among_within ts zero = tt
among_within ts (suc count) =
    subst (λ (o : Option ℕ). IfSome o (λ n. n < suc count)) (sym (among-more ts count))
    (sooner_within ts (first_among ts count) count (among_within ts count))

-- it is one of the lanes
pub so-far-within : (ts : List Turn) (o : Option ℕ) (count : ℕ) → count ≤ length ts → o ≡ first_among ts count
    → IfSome o (λ n. n < length ts)
so-far-within ts o count h e =
    wider o (subst (λ (w : Option ℕ). IfSome w (λ n. n < count)) (sym e) (among_within ts count))
  where
    wider : (o : Option ℕ) → IfSome o (λ n. n < count) → IfSome o (λ n. n < length ts)
    wider o f = grind arith

pub first-within : (ts : List Turn) (place : ℕ) → first_place ts ≡ Some place → place < length ts
first-within ts place e = subst (λ (w : Option ℕ). IfSome w (λ n. n < length ts)) e (among_within ts (length ts))

-- the same of lanes
pub lanes-within : (ls : List Lane) (o : Option ℕ) (count : ℕ) → count ≤ length ls
    → o ≡ first_among (lane_turns ls) count → IfSome o (λ n. n < length ls)
lanes-within ls o count h e =
    subst (λ (k : ℕ). IfSome o (λ n. n < k)) (length-map ls lane_turn)
    (so-far-within (lane_turns ls) o count (omega (arith, length-map ls lane_turn)) e)

pub place-within : (ls : List Lane) (o : Option ℕ) → o ≡ first_place (lane_turns ls) → IfSome o (λ n. n < length ls)
place-within ls o e = lanes-within ls o (length (lane_turns ls)) (omega (arith, length-map ls lane_turn)) e

pub among-all : (ls : List Lane) (o : Option ℕ) (count : ℕ) → count ≡ length ls → o ≡ first_among (lane_turns ls) count
    → o ≡ first_place (lane_turns ls)
among-all ls o count h e = e ∙ ap (first_among (lane_turns ls)) (h ∙ sym (length-map ls lane_turn))

pub among-next : (ts : List Turn) (o : Option ℕ) (count : ℕ) → o ≡ first_among ts count
    → sooner_place ts o count ≡ first_among ts (suc count)
among-next ts o count e = ap (λ w. sooner_place ts w count) e ∙ sym (among-more ts count)

pub among-none : (ts : List Turn) → None ≡ first_among ts 0
unfolding first_from
among-none ts = refl

-- of one lane
pub first-alone : (ls : List Lane) (l : Lane) (b : Bool) → length ls ≡ 1 → l ≡ get_or ls 0 l → b ≡ has_item l.next
    → first_place (lane_turns ls) ≡ cond b (Some 0) None
unfolding first_from
first-alone (k ∷ []) l b e is h = λ i. cond (sym (h ∙ ap (λ (w : Lane). has_item w.next) is) i) (Some 0) None
first-alone ls l b e is h = grind arith

-- the packet of the only lane comes first
pub packet-alone : (ls : List Lane) (place : ℕ) → length ls ≡ 1 → (lane_at ls place).next ≡ Some (Ok true)
    → first_place (lane_turns ls) ≡ Some place
unfolding first_from
packet-alone (l ∷ []) zero e is = ap (λ next. cond (has_item next) (Some 0) None) is
packet-alone ls place e is = grind arith
