-- How a tournament finds the first, and what it keeps if one turn changes.
use Rattle.std.proofs.Common.{◌≡◌, ℕ, zero, suc, ◌+◌, ◌*◌, ◌<◌, ◌≤◌, Bool, true, false, cond, List, [], ◌∷◌, length}
use Rattle.std.proofs.Common.{get_or, refl, sym, ap, ◌∙◌, subst, arith, rules, Option, Some, None, inl, inr}
use Rattle.std.proofs.Common.{length-set, take, ◌-◌, ◌/◌}
use Rattle.std.specs.Prelude.{◌&&◌, ◌⊎◌, IfSome, replicate}
use Rattle.std.specs.Ordering.{is_lt}
use Rattle.std.proofs.Math.ListN.{set}
use Rattle.std.proofs.lemmas.Bool.{true≢false, cases_eq}
use Rattle.std.proofs.lemmas.List.{get_or-set_same, get_or-set_other, get_or-map, length-map}
use Rattle.cap_time.specs.Clock.{clock_cmp}
use Rattle.cap_time.specs.inner.Orderings.{is_less}
use Rattle.cap_merge.specs.declared.lanes.Lane.{Lane}
use Rattle.cap_merge.specs.inner.Clocks.{clock_total, not_below, below-at_most}
use Rattle.cap_merge.specs.inner.First.{Turn, turn_at, lane_turn, lane_turns, sooner_place, first_from, first_place}
use Rattle.cap_merge.specs.inner.First.{has_item, no_turn, comes_before, AreSameBut}
use Rattle.cap_merge.specs.inner.Tournament.{first_of_two, IsRound, IsRoundBut, IsTournament, IsTournamentBut}
use Rattle.cap_merge.specs.declared.tournament.Tournament.{Tournament}
use Rattle.std.proofs.lemmas.Nat.{div-mul-add}

-- the turn at a place, if there is one, has an item
abbrev HasItem : List Turn → Option ℕ → Type 0
HasItem ts place = IfSome place (λ n. (turn_at ts n).has_item ≡ true)

sooner_has : (ts : List Turn) (o : Option ℕ) (k : ℕ) → HasItem ts o → HasItem ts (sooner_place ts o k)
sooner_has ts o k h = grind arith

from_has : (ts : List Turn) (from count : ℕ) → HasItem ts (first_from ts from count)
unfolding first_from
from_has ts from zero = tt
from_has ts from (suc count) = sooner_has ts (first_from ts from count) (from + count) (from_has ts from count)

-- a turn k after two others, a and b, where b isn't before a
below_both : (ts : List Turn) (a b k : ℕ)
    → is_lt (clock_cmp (turn_at ts k).clock (turn_at ts b).clock) ≡ true
    → is_lt (clock_cmp (turn_at ts b).clock (turn_at ts a).clock) ≡ true
    → is_lt (clock_cmp (turn_at ts k).clock (turn_at ts a).clock) ≡ true
below_both ts a b k h g =
    ap is_lt (clock_total.trans (turn_at ts k).clock (turn_at ts b).clock (turn_at ts a).clock
    (is_less (clock_cmp (turn_at ts k).clock (turn_at ts b).clock) h)
    (is_less (clock_cmp (turn_at ts b).clock (turn_at ts a).clock) g))

below_later : (ts : List Turn) (a b k : ℕ)
    → is_lt (clock_cmp (turn_at ts b).clock (turn_at ts a).clock) ≡ false
    → is_lt (clock_cmp (turn_at ts k).clock (turn_at ts a).clock) ≡ true
    → is_lt (clock_cmp (turn_at ts k).clock (turn_at ts b).clock) ≡ true
below_later ts a b k h g =
    ap is_lt (below-at_most (turn_at ts k).clock (turn_at ts a).clock (turn_at ts b).clock
    (is_less (clock_cmp (turn_at ts k).clock (turn_at ts a).clock) g)
    (not_below (turn_at ts b).clock (turn_at ts a).clock h))

-- by whether b is before a, k has an item, and k is before b and before a
joined_by : (ts : List Turn) (a b k : ℕ) (r i p q : Bool)
    → is_lt (clock_cmp (turn_at ts b).clock (turn_at ts a).clock) ≡ r
    → (turn_at ts k).has_item ≡ i
    → is_lt (clock_cmp (turn_at ts k).clock (turn_at ts b).clock) ≡ p
    → is_lt (clock_cmp (turn_at ts k).clock (turn_at ts a).clock) ≡ q
    → (p ≡ true → r ≡ true → q ≡ true) → (r ≡ false → q ≡ true → p ≡ true)
    → sooner_place ts (cond r (Some b) (Some a)) k ≡ first_of_two ts (Some a) (cond (i && p) (Some k) (Some b))
joined_by ts a b k r i p q er ei ep eq f g = grind arith

two_then : (ts : List Turn) (x y : Option ℕ) (k : ℕ) → HasItem ts y
    → sooner_place ts (first_of_two ts x y) k ≡ first_of_two ts x (sooner_place ts y k)
two_then ts None y k h = refl
two_then ts (Some a) None k h = grind arith
two_then ts (Some a) (Some b) k h =
    joined_by ts a b k (is_lt (clock_cmp (turn_at ts b).clock (turn_at ts a).clock)) (turn_at ts k).has_item
    (is_lt (clock_cmp (turn_at ts k).clock (turn_at ts b).clock))
    (is_lt (clock_cmp (turn_at ts k).clock (turn_at ts a).clock)) refl refl refl refl
    (below_both ts a b k) (below_later ts a b k)

two_none : (ts : List Turn) (x : Option ℕ) → x ≡ first_of_two ts x None
two_none ts x = grind arith

-- The first of some turns and of those after them is the first of them all.
pub from-both : (ts : List Turn) (from a b : ℕ)
    → first_from ts from (a + b) ≡ first_of_two ts (first_from ts from a) (first_from ts (from + a) b)
unfolding first_from
from-both ts from a zero =
    let none_more : a + 0 ≡ a = omega arith in
    ap (first_from ts from) none_more ∙ two_none ts (first_from ts from a)
from-both ts from a (suc b) =
    let one_more : a + suc b ≡ suc (a + b) = omega arith in
    let along : from + (a + b) ≡ from + a + b = omega arith in
    ap (first_from ts from) one_more
    ∙ ap (λ o. sooner_place ts o (from + (a + b))) (from-both ts from a b)
    ∙ two_then ts (first_from ts from a) (first_from ts (from + a) b) (from + (a + b)) (from_has ts (from + a) b)
    ∙ ap (λ n. first_of_two ts (first_from ts from a) (sooner_place ts (first_from ts (from + a) b) n)) along

item_within : (ts : List Turn) (n : ℕ) → (turn_at ts n).has_item ≡ true → n < length ts
item_within [] n h = absurd (true≢false (sym h))
item_within (t ∷ ts) zero h = omega arith
item_within (t ∷ ts) (suc n) h = omega (arith, item_within ts n h)

place_within : (ts : List Turn) (o : Option ℕ) → HasItem ts o → IfSome o (λ n. n < length ts)
place_within ts None h = tt
place_within ts (Some n) h = item_within ts n h

pub from-within : (ts : List Turn) (from count : ℕ) → IfSome (first_from ts from count) (λ n. n < length ts)
from-within ts from count = place_within ts (first_from ts from count) (from_has ts from count)

-- what is kept of a group is one of the lanes
pub kept-within : (ls : List Lane) (size : ℕ) (firsts : List (Option ℕ)) (group : ℕ)
    → IsRound (lane_turns ls) size firsts → group < length firsts
    → IfSome (get_or firsts group None) (λ n. n < length ls)
kept-within ls size firsts group h w =
    subst (λ (k : ℕ). IfSome (get_or firsts group None) (λ n. n < k)) (length-map ls lane_turn)
    (subst (λ (o : Option ℕ). IfSome o (λ n. n < length (lane_turns ls))) (sym (h group w))
    (from-within (lane_turns ls) (group * size) size))

both_halves : (ts : List Turn) (size : ℕ) (halves : List (Option ℕ)) (group : ℕ) → IsRound ts size halves
    → 2 * group + 1 < length halves
    → first_of_two ts (get_or halves (2 * group) None) (get_or halves (2 * group + 1) None)
    ≡ first_from ts (group * (size + size)) (size + size)
both_halves ts size halves group h w =
    let first = h (2 * group) (omega (arith, w)) ∙ ap (λ n. first_from ts n size) (twice group size) in
    let second = h (2 * group + 1) w ∙ ap (λ n. first_from ts n size) (twice_more group size) in
    ap (λ o. first_of_two ts o (get_or halves (2 * group + 1) None)) first
    ∙ ap (first_of_two ts (first_from ts (group * (size + size)) size)) second
    ∙ sym (from-both ts (group * (size + size)) size size)
  where
    twice : (g s : ℕ) → 2 * g * s ≡ g * (s + s)
    twice g s = search rules

    twice_more : (g s : ℕ) → (2 * g + 1) * s ≡ g * (s + s) + s
    twice_more g s = search rules

-- If the halves of a group are known, the group is.
pub round-met : (ts : List Turn) (size : ℕ) (halves groups : List (Option ℕ)) (group : ℕ) (o : Option ℕ)
    → length halves ≡ 2 * length groups → group < length groups
    → o ≡ first_of_two ts (get_or halves (2 * group) None) (get_or halves (2 * group + 1) None)
    → IsRound ts size halves → IsRoundBut ts (size + size) groups group
    → IsRound ts (size + size) (set groups group o)
round-met ts size halves groups group o twice w is h others k l =
    by_place (cases_eq k group)
  where
    at : k ≡ group → get_or (set groups group o) k None ≡ first_from ts (k * (size + size)) (size + size)
    at e = ap (λ n. get_or (set groups group o) n None) e ∙ get_or-set_same groups group o None w ∙ is
        ∙ both_halves ts size halves group h (omega (arith, twice, w))
        ∙ ap (λ n. first_from ts (n * (size + size)) (size + size)) (sym e)

    by_place : (k ≡ group) ⊎ (k ≡ group → ⊥)
        → get_or (set groups group o) k None ≡ first_from ts (k * (size + size)) (size + size)
    by_place (inl e) = at e
    by_place (inr n) = get_or-set_other groups group k o None n
        ∙ others k (omega (arith, l, length-set groups group o)) n

-- what is kept of each lane by itself
pub ones-set : (ts : List Turn) (ones : List (Option ℕ)) (place : ℕ) (o : Option ℕ) → place < length ones
    → o ≡ cond (turn_at ts place).has_item (Some place) None
    → IsRoundBut ts 1 ones place → IsRound ts 1 (set ones place o)
unfolding first_from
ones-set ts ones place o w is others k l =
    by_place (cases_eq k place)
  where
    alone : (n : ℕ) → n ≡ place → o ≡ first_from ts (n * 1) 1
    alone n e =
        let here : place ≡ n * 1 + 0 = omega (arith, e) in
        is ∙ ap (λ m. cond (turn_at ts m).has_item (Some m) None) here

    by_place : (k ≡ place) ⊎ (k ≡ place → ⊥) → get_or (set ones place o) k None ≡ first_from ts (k * 1) 1
    by_place (inl e) = ap (λ n. get_or (set ones place o) n None) e ∙ get_or-set_same ones place o None w ∙ alone k e
    by_place (inr n) = get_or-set_other ones place k o None n ∙ others k (omega (arith, l, length-set ones place o)) n

-- the turn of the lane at a place
pub turn-there : (ls : List Lane) (place : ℕ) (l : Lane) (b : Bool) → place < length ls → l ≡ get_or ls place l
    → b ≡ has_item l.next → b ≡ (turn_at (lane_turns ls) place).has_item
turn-there ls place l b w is h =
    h ∙ ap (λ (m : Lane). has_item m.next) is
    ∙ ap (λ (t : Turn). t.has_item) (sym (get_or-map lane_turn ls place l no_turn w))

sooner_range : (ts : List Turn) (from count p : ℕ) (o : Option ℕ)
    → ((q : ℕ) → o ≡ Some q → (from ≤ q) × (q < from + count))
    → sooner_place ts o (from + count) ≡ Some p → (from ≤ p) × (p < from + suc count)
sooner_range ts from count p None h e =
    let same : from + count ≡ p = one (turn_at ts (from + count)).has_item e in
    (omega (arith, same), omega (arith, same))
  where
    one : (b : Bool) → cond b (Some (from + count)) None ≡ Some p → from + count ≡ p
    one true e = cc
    one false e = absurd (cc)
sooner_range ts from count p (Some q) h e =
    by_case (one (comes_before (turn_at ts (from + count)) (turn_at ts q)) e)
  where
    one : (b : Bool) → cond b (Some (from + count)) (Some q) ≡ Some p → (from + count ≡ p) ⊎ (q ≡ p)
    one true e = inl (cc)
    one false e = inr (cc)

    by_case : (from + count ≡ p) ⊎ (q ≡ p) → (from ≤ p) × (p < from + suc count)
    by_case (inl s) = (omega (arith, s), omega (arith, s))
    by_case (inr s) = (omega (arith, s, (h q refl).0), omega (arith, s, (h q refl).1))

-- the first of some turns is one of them
from_range : (ts : List Turn) (from count p : ℕ) → first_from ts from count ≡ Some p → (from ≤ p) × (p < from + count)
unfolding first_from
from_range ts from zero p e = absurd (cc)
from_range ts from (suc count) p e =
    sooner_range ts from count p (first_from ts from count) (λ q. from_range ts from count q) e

-- after the last turn none has an item
none_behind : (ts : List Turn) (from count : ℕ) (o : Option ℕ) → first_from ts from count ≡ o → length ts ≤ from
    → first_from ts from count ≡ None
none_behind ts from count None e l = e
none_behind ts from count (Some p) e l =
    absurd (omega (
      arith,
      l,
      (from_range ts from count p e).0,
      subst (λ (o : Option ℕ). IfSome o (λ n. n < length ts)) e (from-within ts from count),
    ))

among_more : (ts : List Turn) (more : ℕ) → first_from ts 0 (length ts + more) ≡ first_place ts
among_more ts more =
    from-both ts 0 (length ts) more
    ∙ ap (first_of_two ts (first_from ts 0 (length ts)))
    (none_behind ts (0 + length ts) more (first_from ts (0 + length ts) more) refl (omega arith))
    ∙ sym (two_none ts (first_place ts))

-- the first of both halves of 32 turns
pub halves-first : (ts : List Turn) (sixteens : List (Option ℕ)) → length ts ≤ 32 → length sixteens ≡ 2
    → IsRound ts 16 sixteens
    → first_of_two ts (get_or sixteens 0 None) (get_or sixteens 1 None) ≡ first_place ts
halves-first ts sixteens most l h =
    let whole : 32 ≡ length ts + (32 - length ts) = omega (arith, most) in
    ap (λ o. first_of_two ts o (get_or sixteens 1 None)) (h 0 (omega (arith, l)))
    ∙ ap (first_of_two ts (first_from ts 0 16)) (h 1 (omega (arith, l)))
    ∙ sym (from-both ts 0 16 16) ∙ ap (first_from ts 0) whole ∙ among_more ts (32 - length ts)

-- the first of two turns, if one more turn changes
sooner_same : (ts us : List Turn) (o : Option ℕ) (k : ℕ) → IfSome o (λ p. turn_at us p ≡ turn_at ts p)
    → turn_at us k ≡ turn_at ts k → sooner_place us o k ≡ sooner_place ts o k
sooner_same ts us None k f e = λ i. cond (e i).has_item (Some k) None
sooner_same ts us (Some p) k f e = λ i. cond (comes_before (e i) (f i)) (Some k) (Some p)

range_same : (ts us : List Turn) (from count : ℕ) (o : Option ℕ) → first_from ts from count ≡ o
    → ((k : ℕ) → from ≤ k → k < from + count → turn_at us k ≡ turn_at ts k)
    → IfSome o (λ p. turn_at us p ≡ turn_at ts p)
range_same ts us from count None e f = tt
range_same ts us from count (Some p) e f =
    let range = from_range ts from count p e in
    f p range.0 range.1

from_same : (ts us : List Turn) (from count : ℕ) → ((k : ℕ) → from ≤ k → k < from + count → turn_at us k ≡ turn_at ts k)
    → first_from us from count ≡ first_from ts from count
unfolding first_from
from_same ts us from zero f = refl
from_same ts us from (suc count) f =
    let before : (k : ℕ) → from ≤ k → k < from + count → turn_at us k ≡ turn_at ts k =
    λ k a b. f k a (omega (arith, b)) in
    ap (λ o. sooner_place us o (from + count)) (from_same ts us from count before)
    ∙ sooner_same ts us (first_from ts from count) (from + count)
    (range_same ts us from count (first_from ts from count) refl before) (f (from + count) (omega arith) (omega arith))

round_same : (ts us : List Turn) (size place but : ℕ) (firsts : List (Option ℕ)) → AreSameBut ts us place
    → but ≡ place / size
    → IsRoundBut ts size firsts but → IsRoundBut us size firsts but
round_same ts us size place but firsts same is h group l other =
    h group l other ∙ sym (from_same ts us (group * size) size (λ k a b. same k (λ e. other (elsewhere k a b e))))
  where
    elsewhere : (k : ℕ) → group * size ≤ k → k < group * size + size → k ≡ place → group ≡ but
    elsewhere k a b e =
        let inside : k - group * size < size = omega (arith, a, b) in
        let there : group * size + (k - group * size) ≡ place = omega (arith, a, e) in
        sym (div-mul-add group size (k - group * size) inside) ∙ ap (λ n. n / size) there ∙ sym is

-- What is kept of the groups without a place stays so, whatever the turn there becomes.
pub but-same : (ts us : List Turn) (t : Tournament) (place : ℕ) → AreSameBut ts us place → IsTournamentBut ts t place
    → IsTournamentBut us t place
but-same ts us t place same h = record {
  ones = round_same ts us 1 place place t.ones same (omega arith) h.ones;
  twos = round_same ts us 2 place (place / 2) t.twos same refl h.twos;
  fours = round_same ts us 4 place (place / 4) t.fours same refl h.fours;
  eights = round_same ts us 8 place (place / 8) t.eights same refl h.eights;
  sixteens = round_same ts us 16 place (place / 16) t.sixteens same refl h.sixteens;
}

pub all-but : (ts : List Turn) (t : Tournament) (place : ℕ) → IsTournament ts t → IsTournamentBut ts t place
all-but ts t place h = record {
  ones = λ group l n. h.ones group l;
  twos = λ group l n. h.twos group l;
  fours = λ group l n. h.fours group l;
  eights = λ group l n. h.eights group l;
  sixteens = λ group l n. h.sixteens group l;
}

-- One lane more changes no turn but its own.
pub one-more : (ls : List Lane) (n : ℕ) → AreSameBut (lane_turns (take n ls)) (lane_turns (take (suc n) ls)) n
one-more [] zero k other = refl
one-more [] (suc n) k other = refl
one-more (l ∷ ls) zero zero other = absurd (other refl)
one-more (l ∷ ls) zero (suc k) other = refl
one-more (l ∷ ls) (suc n) zero other = refl
one-more (l ∷ ls) (suc n) (suc k) other = one-more ls n k (λ e. other (ap suc e))

get_or-none : (n k : ℕ) → get_or {A = Option ℕ} (replicate n None) k None ≡ None
get_or-none zero k = refl
get_or-none (suc n) zero = refl
get_or-none (suc n) (suc k) = get_or-none n k

-- of no turns none is first
pub blank-round : (size count : ℕ) → IsRound [] size (replicate count None)
blank-round size count group l =
    get_or-none count group ∙ sym (none_behind [] (group * size) size (first_from [] (group * size) size) refl
    (omega arith))
