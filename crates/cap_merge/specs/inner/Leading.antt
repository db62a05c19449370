-- Which part comes first: the law of the place.
use Rattle.std.proofs.Common.{◌≡◌, ℕ, zero, suc, ◌+◌, ◌<◌, Bool, true, false, cond, List, [], ◌∷◌, ◌++◌, length, get_or}
use Rattle.std.proofs.Common.{take, drop, refl, sym, ap, ◌∙◌, subst, arith, Less, Option, Some, None}
use Rattle.std.specs.Prelude.{◌&&◌}
use Rattle.std.specs.List.{AllByRecursion, slice_get}
use Rattle.std.specs.Option.{option_and_then}
use Rattle.std.specs.Ordering.{is_lt}
use Rattle.std.proofs.lemmas.Bool.{true≢false}
use Rattle.std.proofs.lemmas.List.{length-map, length-take-le, length-drop, take-append-drop, take-map, drop-map}
use Rattle.std.proofs.lemmas.List.{get_or-map, get_or-take, get_or-drop}
use Rattle.std.proofs.lemmas.Option.{slice_get-get_or}
use Rattle.std.proofs.Math.Seq.{drop-cons}
use Rattle.cap_time.specs.declared.stamps.Stamp.{Stamp}
use Rattle.cap_time.specs.Clock.{clock_cmp}
use Rattle.cap_merge.specs.inner.First.{Turn, has_next, no_turn, turn_at, sooner_place, first_from, first_among}
use Rattle.cap_merge.specs.inner.First.{first_place}
use Rattle.cap_merge.specs.Parts.{Part, turn, turns, first_part}
use Rattle.cap_time.specs.inner.Orderings.{is_less}
use Rattle.cap_merge.specs.inner.Clocks.{clock_total, AtMost, not_below, below-at_most}

-- The clock is below that of the item that comes next, if one does.
abbrev pub IsBelow : Option Stamp → Turn → Type 0
IsBelow clock t = t.has_item ≡ true → clock_cmp clock t.clock ≡ Less

-- The clock isn't above that of the item that comes next, if one does.
abbrev pub IsNotAbove : Option Stamp → Turn → Type 0
IsNotAbove clock t = t.has_item ≡ true → AtMost clock t.clock

-- The item of a part comes first, of equal clocks the first.
pub record Split (ps : List Part) (first : Part) : Type 0 where
  pub before : List Part
  pub after : List Part
  pub whole : ps ≡ before ++ (first ∷ after)
  pub place : first_place (turns ps) ≡ Some (length before)
  pub is_first : first_part ps ≡ Some first
  pub next : has_next first.lane.head ≡ true
  pub below : AllByRecursion (λ p. IsBelow first.lane.clock (turn p)) before
  pub not_above : AllByRecursion (λ p. IsNotAbove first.lane.clock (turn p)) after

-- no item comes next of any part
abbrev pub NoNext : List Part → Type 0
NoNext ps = AllByRecursion (λ p. has_next p.lane.head ≡ false) ps

abbrev pub IsFirstOf : List Part → Option Part → Type 0
IsFirstOf ps None = NoNext ps
IsFirstOf ps (Some first) = Split ps first

-- The turn at a place comes first of that many.
record Leads (ls : List Turn) (count place : ℕ) : Type 0 where
  within : place < count
  next : (turn_at ls place).has_item ≡ true
  below : (k : ℕ) → k < place → IsBelow (turn_at ls place).clock (turn_at ls k)
  not_above : (k : ℕ) → place < k → k < count → IsNotAbove (turn_at ls place).clock (turn_at ls k)

-- No item comes next of that many turns, or the turn at the place comes first.
abbrev LeadsOf : List Turn → ℕ → Option ℕ → Type 0
LeadsOf ls count None = (k : ℕ) → k < count → (turn_at ls k).has_item ≡ false
LeadsOf ls count (Some place) = Leads ls count place

-- below a place, there, or above it
three : (P : ℕ → Type 0) (place k : ℕ) → (k < place → P k) → P place → (place < k → P k) → P k
three P zero zero a b c = b
three P zero (suc k) a b c = c (omega arith)
three P (suc place) zero a b c = a (omega arith)
three P (suc place) (suc k) a b c = three (λ n. P (suc n)) place k (λ h. a (omega arith)) b (λ h. c (omega arith))

alone : (ls : List Turn) (count : ℕ) (b : Bool) → (turn_at ls count).has_item ≡ b → LeadsOf ls count None
    → LeadsOf ls (suc count) (cond b (Some count) None)
alone ls count true e f = record {
  within = omega arith;
  next = e;
  below =
      λ k h yes. absurd (true≢false (sym yes ∙ f k h));
  not_above = λ k h l. absurd (omega arith);
}
alone ls count false e f = λ k h. three (λ n. (turn_at ls n).has_item ≡ false) count k (f k) e
    (λ l. absurd (omega arith))

stays : (ls : List Turn) (count place : ℕ) → IsNotAbove (turn_at ls place).clock (turn_at ls count)
    → Leads ls count place → Leads ls (suc count) place
stays ls count place h s =
    record {
      within = omega (arith, s.within);
      next = s.next;
      below = s.below;
      not_above = λ k l m. three (λ n. IsNotAbove (turn_at ls place).clock (turn_at ls n)) count k (s.not_above k l) h
          (λ n. absurd (omega arith));
    }

two : (ls : List Turn) (count place : ℕ) (b t : Bool) → (turn_at ls count).has_item ≡ b
    → is_lt (clock_cmp (turn_at ls count).clock (turn_at ls place).clock) ≡ t
    → Leads ls count place → LeadsOf ls (suc count) (cond (b && t) (Some count) (Some place))
two ls count place true true e c s =
    let clock = (turn_at ls count).clock in
    let first = (turn_at ls place).clock in
    let less = is_less (clock_cmp clock first) c in
    record {
      within = omega arith;
      next = e;
      below = λ k h. three (λ n. IsBelow clock (turn_at ls n)) place k
          (λ l yes. clock_total.trans clock first (turn_at ls k).clock less (s.below k l yes)) (λ yes. less)
          (λ l yes. below-at_most clock first (turn_at ls k).clock less (s.not_above k l h yes));
      not_above = λ k h l. absurd (omega arith);
    }
two ls count place true false e c s = stays ls count place
    (λ yes. not_below (turn_at ls count).clock (turn_at ls place).clock c) s
two ls count place false t e c s = stays ls count place (λ yes. absurd (true≢false (sym yes ∙ e))) s

sooner_is : (ls : List Turn) (count : ℕ) (o : Option ℕ) → LeadsOf ls count o
    → LeadsOf ls (suc count) (sooner_place ls o count)
sooner_is ls count None f = alone ls count ((turn_at ls count).has_item) refl f
sooner_is ls count (Some place) s = two ls count place ((turn_at ls count).has_item)
    (is_lt (clock_cmp (turn_at ls count).clock (turn_at ls place).clock)) refl refl s

-- of one more turn
pub among-more : (ls : List Turn) (count : ℕ)
    → first_among ls (suc count) ≡ sooner_place ls (first_among ls count) count
unfolding first_from
among-more ls count =
    let there : 0 + count ≡ count = omega arith in
    ap (sooner_place ls (first_among ls count)) there

among_is : (ls : List Turn) (count : ℕ) → LeadsOf ls count (first_among ls count)
unfolding first_from
among_is ls zero = λ k h. absurd (omega arith)
among_is ls (suc count) =
    subst (LeadsOf ls (suc count)) (sym (among-more ls count))
    (sooner_is ls count (first_among ls count) (among_is ls count))

-- what is true of the turn at each place of some parts
each_turn : (P : Turn → Type 0) (ps : List Part) → ((k : ℕ) → k < length ps → P (turn_at (turns ps) k))
    → AllByRecursion (λ p. P (turn p)) ps
each_turn P [] f = tt
each_turn P (p ∷ ps) f = (f 0 (omega arith), each_turn P ps (λ k h. f (suc k) (omega arith)))

split_at : (d : Part) (ps : List Part) (place : ℕ) → first_place (turns ps) ≡ Some place
    → Leads (turns ps) (length (turns ps)) place → Split ps (get_or ps place d)
unfolding first_part
split_at d ps place e s =
    let within : place < length ps = omega (arith, s.within, length-map ps turn) in
    let turn_is : turn_at (turns ps) place ≡ turn (get_or ps place d) = get_or-map turn ps place d no_turn within in
    let clock_is : (turn_at (turns ps) place).clock ≡ (get_or ps place d).lane.clock = ap (λ t. t.clock) turn_is in
    record {
      before = take place ps;
      after = drop (suc place) ps;
      whole = sym (take-append-drop place ps) ∙ ap (λ xs. take place ps ++ xs) (drop-cons ps place d within);
      place = e ∙ ap Some (sym (length-take-le place ps (omega arith)));
      is_first = ap (option_and_then (slice_get ps)) e ∙ slice_get-get_or ps place d within;
      next = ap (λ (t : Turn). t.has_item) (sym turn_is) ∙ s.next;
      below = each_turn (IsBelow (get_or ps place d).lane.clock) (take place ps) (λ k h.
          let l : k < place = omega (arith, length-take-le place ps (omega arith)) in
          rw (← clock_is, ← take-map turn place ps, get_or-take place (turns ps) k no_turn l) (s.below k l));
      not_above = each_turn (IsNotAbove (get_or ps place d).lane.clock) (drop (suc place) ps) (λ k h.
          rw (← clock_is, ← drop-map turn (suc place) ps, get_or-drop (suc place) (turns ps) k no_turn)
          (s.not_above (suc place + k) (omega arith) (omega (arith, length-drop (suc place) ps, length-map ps turn))));
    }

first_by : (ps : List Part) (o : Option ℕ) → first_place (turns ps) ≡ o → LeadsOf (turns ps) (length (turns ps)) o
    → IsFirstOf ps (option_and_then (slice_get ps) o)
first_by ps None e f = each_turn (λ t. t.has_item ≡ false) ps (λ k h. f k (omega (arith, length-map ps turn)))
first_by [] (Some place) e s = tt
first_by (p ∷ ps) (Some place) e s =
    subst (IsFirstOf (p ∷ ps))
    (sym (slice_get-get_or (p ∷ ps) place p (omega (arith, s.within, length-map (p ∷ ps) turn))))
    (split_at p (p ∷ ps) place e s)

-- The part at the place comes first; if there is no place, no item comes next.
pub first_is : (ps : List Part) → IsFirstOf ps (first_part ps)
unfolding first_part
first_is ps = first_by ps (first_place (turns ps)) refl (among_is (turns ps) (length (turns ps)))
