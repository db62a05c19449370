-- Laws of the run, over any files.
use Rattle.std.proofs.Common.{◌≡◌, ℕ, zero, suc, ◌+◌, ◌≤◌, Bool, true, false, List, [], ◌∷◌, ◌++◌, length, refl, sym}
use Rattle.std.proofs.Common.{ap, ◌∙◌, subst, arith, inl, inr, Less, Equal, Option, None}
use Rattle.std.specs.Prelude.{map, ⊤, ◌⊎◌}
use Rattle.std.specs.List.{AllByRecursion}
use Rattle.std.specs.Ordering.{is_lt, is_gt}
use Rattle.cap_time.specs.declared.stamps.Stamp.{Stamp}
use Rattle.cap_merge.specs.inner.Lists.{All-both, All-implied, all-back, all-front}
use Rattle.cap_time.specs.Clock.{clock_cmp, later, greatest_from, greatest}
use Rattle.cap_merge.specs.Run.{Clocked, Track, opened_track, merged, run, through_first, HeadClock, IsFirst}
use Rattle.cap_merge.specs.inner.Clocks.{AtMost, at_most-trans, later-first, later-second, later-least, not_below}
use Rattle.cap_time.specs.inner.Orderings.{is_less}
use Rattle.cap_merge.specs.inner.Clocks.{at_most-both, equal-at_most}
use Rattle.cap_merge.specs.inner.MergedList.{passed, merged-next, merged-none}

-- Some file's next item comes first of all.
pub record Next {A : Type 0} (time : A → Option Stamp) (ts : List (Track A)) : Type 0 where
  pub before : List (Track A)
  pub clock : Option Stamp
  pub item : A
  pub rest : List A
  pub after : List (Track A)
  pub whole : ts ≡ before ++ (record { clock = clock; items = item ∷ rest } ∷ after)
  pub first : IsFirst time before (later clock (time item)) after

all_heads : {A : Type 0} (time : A → Option Stamp) (P Q : Option Stamp → Type 0) → ((h : Option Stamp) → P h → Q h)
    → (clock : Option Stamp) (items : List A)
    → HeadClock time P clock items → HeadClock time Q clock items
all_heads time P Q f clock items h = grind arith

pub heads-implied : {A : Type 0} (time : A → Option Stamp) (P Q : Option Stamp → Type 0)
    → ((h : Option Stamp) → P h → Q h) → (ts : List (Track A))
    → AllByRecursion (λ t. HeadClock time P t.clock t.items) ts
    → AllByRecursion (λ t. HeadClock time Q t.clock t.items) ts
heads-implied time P Q f [] h = tt
heads-implied time P Q f (t ∷ ts) h = (all_heads time P Q f t.clock t.items h.0, heads-implied time P Q f ts h.1)

empty_heads : {A : Type 0} (time : A → Option Stamp) (P : Option Stamp → Type 0) (ts : List (Track A))
    → AllByRecursion (λ t. t.items ≡ []) ts
    → AllByRecursion (λ t. HeadClock time P t.clock t.items) ts
empty_heads time P [] h = tt
empty_heads time P (t ∷ ts) h =
    (subst (λ (xs : List _). HeadClock time P t.clock xs) (sym h.0) tt, empty_heads time P ts h.1)

-- what isn't above the first isn't above any
under_all : {A : Type 0} (time : A → Option Stamp) (d : Option Stamp) (ts : List (Track A)) → (n : Next time ts)
    → AtMost d (later n.clock (time n.item))
    → AllByRecursion (λ t. HeadClock time (AtMost d) t.clock t.items) ts
under_all time d ts n h =
    subst (λ (xs : List (Track _)). AllByRecursion (λ t. HeadClock time (AtMost d) t.clock t.items) xs) (sym n.whole)
    (All-both (λ t. HeadClock time (AtMost d) t.clock t.items) n.before
    (record { clock = n.clock; items = n.item ∷ n.rest } ∷ n.after)
    (heads-implied time (λ w. clock_cmp (later n.clock (time n.item)) w ≡ Less) (AtMost d)
    (λ w below. at_most-trans d (later n.clock (time n.item)) w h (ap is_gt below)) n.before n.first.below) (
      h,
      heads-implied time (λ w. AtMost (later n.clock (time n.item)) w) (AtMost d)
          (λ w above. at_most-trans d (later n.clock (time n.item)) w h above) n.after n.first.not_above,
    ))

with_one : {A : Type 0} (time : A → Option Stamp) (clock : Option Stamp) (x : A) (xs : List A) (ts : List (Track A))
    (n : Next time ts) (b : Bool)
    → is_lt (clock_cmp (later n.clock (time n.item)) (later clock (time x))) ≡ b
    → Next time (record { clock = clock; items = x ∷ xs } ∷ ts)
with_one time clock x xs ts n true e =
    record {
      before = record { clock = clock; items = x ∷ xs } ∷ n.before;
      clock = n.clock;
      item = n.item;
      rest = n.rest;
      after = n.after;
      whole = ap (λ us. record { clock = clock; items = x ∷ xs } ∷ us) n.whole;
      first = record {
        below = (is_less (clock_cmp (later n.clock (time n.item)) (later clock (time x))) e, n.first.below);
        not_above = n.first.not_above;
      };
    }
with_one time clock x xs ts n false e =
    record {
      before = [];
      clock = clock;
      item = x;
      rest = xs;
      after = ts;
      whole = refl;
      first = record {
        below = tt;
        not_above = under_all time (later clock (time x)) ts n
            (not_below (later n.clock (time n.item)) (later clock (time x)) e);
      };
    }

with_file : {A : Type 0} (time : A → Option Stamp) (clock : Option Stamp) (items : List A) (ts : List (Track A))
    → (AllByRecursion (λ t. t.items ≡ []) ts ⊎ Next time ts)
    → AllByRecursion (λ t. t.items ≡ []) (record { clock = clock; items = items } ∷ ts)
    ⊎ Next time (record { clock = clock; items = items } ∷ ts)
with_file time clock [] ts (inl h) = inl (refl, h)
with_file time clock [] ts (inr n) =
    inr (record {
      before = record { clock = clock; items = [] } ∷ n.before;
      clock = n.clock;
      item = n.item;
      rest = n.rest;
      after = n.after;
      whole = ap (λ us. record { clock = clock; items = [] } ∷ us) n.whole;
      first = record { below = (tt, n.first.below); not_above = n.first.not_above };
    })
with_file time clock (x ∷ xs) ts (inl h) =
    inr (record {
      before = [];
      clock = clock;
      item = x;
      rest = xs;
      after = ts;
      whole = refl;
      first = record { below = tt; not_above = empty_heads time (AtMost (later clock (time x))) ts h };
    })
with_file time clock (x ∷ xs) ts (inr n) =
    inr (with_one time clock x xs ts n (is_lt (clock_cmp (later n.clock (time n.item)) (later clock (time x)))) refl)

-- Either no file has items to come, or some file's next item comes first.
pub next-of : {A : Type 0} (time : A → Option Stamp) (ts : List (Track A)) → AllByRecursion (λ t. t.items ≡ []) ts
    ⊎ Next time ts
next-of time [] = inl tt
next-of time (t ∷ ts) = with_file time t.clock t.items ts (next-of time ts)

-- how many items are to come
pub total : {A : Type 0} → List (Track A) → ℕ
total [] = 0
total (t ∷ ts) = length t.items + total ts

pub total_less : {A : Type 0} (before after : List (Track A)) (c d : Option Stamp) (x : A) (xs : List A)
    → total (before ++ (record { clock = c; items = x ∷ xs } ∷ after))
    ≡ suc (total (before ++ (record { clock = d; items = xs } ∷ after)))
unfolding total
total_less [] after c d x xs = omega arith
total_less (t ∷ before) after c d x xs = omega (arith, total_less before after c d x xs)

-- The clock of each item is, by the order, the greatest of a time and those of the items up to it, itself included.
abbrev pub ClocksAreTold : {A : Type 0} → (A → Option Stamp) → Option Stamp → List (Clocked A) → Type 0
ClocksAreTold time before [] = ⊤
ClocksAreTold time before (x ∷ xs) = (clock_cmp (later before (time x.item)) x.clock ≡ Equal)
    × ClocksAreTold time (later before (time x.item)) xs

-- the clocks that the files have reached aren't above the time, nor is the time above the clocks of their next items
pub record IsBetween {A : Type 0} (time : A → Option Stamp) (now : Option Stamp) (ts : List (Track A)) : Type 0 where
  pub reached : AllByRecursion (λ t. AtMost t.clock now) ts
  pub ahead : AllByRecursion (λ t. HeadClock time (AtMost now) t.clock t.items) ts

-- the clock of the first item, and what is between after it
pub first_told : {A : Type 0} (time : A → Option Stamp) (now clock : Option Stamp) (x : A) → AtMost clock now
    → AtMost now (later clock (time x))
    → AtMost (later now (time x)) (later clock (time x)) × AtMost (later clock (time x)) (later now (time x))
first_told time now clock x reached ahead = search (later-least, later-second, at_most-trans, later-first)

own_ahead : {A : Type 0} (time : A → Option Stamp) (now clock : Option Stamp) (xs : List A) → AtMost now clock
    → HeadClock time (AtMost now) clock xs
own_ahead time now clock [] h = tt
own_ahead time now clock (x ∷ xs) h = at_most-trans now clock (later clock (time x)) h (later-first clock (time x))

pub between_next : {A : Type 0} (time : A → Option Stamp) (now : Option Stamp) (before after : List (Track A))
    (clock : Option Stamp) (x : A) (xs : List A)
    → IsBetween time now (before ++ (record { clock = clock; items = x ∷ xs } ∷ after))
    → IsFirst time before (later clock (time x)) after
    → IsBetween time (later now (time x)) (before ++ (passed time clock x xs ∷ after))
between_next time now before after clock x xs b f =
    let reached = all-back (λ t. AtMost t.clock now) before
    (record { clock = clock; items = x ∷ xs } ∷ after) b.reached in
    let ahead = all-back (λ t. HeadClock time (AtMost now) t.clock t.items) before
    (record { clock = clock; items = x ∷ xs } ∷ after) b.ahead in
    let told = first_told time now clock x reached.0 ahead.0 in
    let up : (t : Track _) → AtMost t.clock now → AtMost t.clock (later now (time x)) =
    λ t h. at_most-trans t.clock now (later now (time x)) h (later-first now (time x)) in
    record {
      reached = All-both (λ t. AtMost t.clock (later now (time x))) before (passed time clock x xs ∷ after)
          (All-implied (λ t. AtMost t.clock now) (λ t. AtMost t.clock (later now (time x))) before up
          (all-front (λ t. AtMost t.clock now) before (record { clock = clock; items = x ∷ xs } ∷ after) b.reached))
          (told.1, All-implied (λ t. AtMost t.clock now) (λ t. AtMost t.clock (later now (time x))) after up reached.1);
      ahead = All-both (λ t. HeadClock time (AtMost (later now (time x))) t.clock t.items) before
          (passed time clock x xs ∷ after)
          (heads-implied time (λ h. clock_cmp (later clock (time x)) h ≡ Less) (AtMost (later now (time x)))
          (λ h below. at_most-trans (later now (time x)) (later clock (time x)) h told.0 (ap is_gt below))
          before f.below) (
            own_ahead time (later now (time x)) (later clock (time x)) xs told.0,
            heads-implied time (λ h. AtMost (later clock (time x)) h) (AtMost (later now (time x)))
                (λ h above. at_most-trans (later now (time x)) (later clock (time x)) h told.0 above) after f.not_above,
          );
    }

clocks_told : {A : Type 0} (time : A → Option Stamp) (n : ℕ) (ts : List (Track A)) (now : Option Stamp) → total ts ≤ n
    → IsBetween time now ts
    → (AllByRecursion (λ t. t.items ≡ []) ts ⊎ Next time ts) → ClocksAreTold time now (merged time ts)
clocks_told time n ts now l b (inl h) = subst (ClocksAreTold time now) (sym (merged-none time ts h)) tt
clocks_told time zero ts now l b (inr m) =
    absurd (omega (arith, l, ap total m.whole, total_less m.before m.after m.clock m.clock m.item m.rest))
clocks_told time (suc n) ts now l b (inr m) =
    let between = subst (IsBetween time now) m.whole b in
    let reached = all-back (λ t. AtMost t.clock now) m.before
    (record { clock = m.clock; items = m.item ∷ m.rest } ∷ m.after) between.reached in
    let ahead = all-back (λ t. HeadClock time (AtMost now) t.clock t.items) m.before
    (record { clock = m.clock; items = m.item ∷ m.rest } ∷ m.after) between.ahead in
    let told = first_told time now m.clock m.item reached.0 ahead.0 in
    let behind = m.before ++ (passed time m.clock m.item m.rest ∷ m.after) in
    let fewer : total behind ≤ n =
    omega (
      arith,
      l,
      ap total m.whole,
      total_less m.before m.after m.clock
          (later m.clock (time m.item)) m.item m.rest,
    ) in
    subst (ClocksAreTold time now) (sym (ap (merged time) m.whole
    ∙ merged-next time m.before m.after m.clock m.item m.rest m.first)) (
      at_most-both (later now (time m.item)) (later m.clock (time m.item)) told.0 told.1,
      clocks_told time n behind (later now (time m.item)) fewer
          (between_next time now m.before m.after m.clock m.item m.rest between m.first) (next-of time behind),
    )

pub opened_between : {A : Type 0} (time : A → Option Stamp) (files : List (List A))
    → IsBetween time None (map opened_track files)
opened_between time [] = record { reached = tt; ahead = tt }
opened_between time (items ∷ files) = grind (arith, opened_between time files)

through_told : {A : Type 0} (time : A → Option Stamp) (ends : Clocked A → Bool) (now : Option Stamp)
    (xs : List (Clocked A)) → ClocksAreTold time now xs
    → ClocksAreTold time now (through_first ends xs)
through_told time ends now [] h = tt
through_told time ends now (x ∷ xs) h = grind (arith, through_told time ends (later now (time x.item)) xs h.1)

-- The greatest time of the packets of a run up to and with an item is, by the order, the item's clock, also for files
-- that run back.
pub run-clocks : {A : Type 0} (time : A → Option Stamp) (is_refusal : A → Bool) (files : List (List A))
    → ClocksAreTold time None (run time is_refusal (map opened_track files))
run-clocks time is_refusal files =
    through_told time (λ x. is_refusal x.item) None (merged time (map opened_track files))
    (clocks_told time (total (map opened_track files)) (map opened_track files) None (omega arith)
    (opened_between time files)
    (next-of time (map opened_track files)))

told_at : {A : Type 0} (time : A → Option Stamp) (now : Option Stamp) (before after : List (Clocked A)) (x : Clocked A)
    → ClocksAreTold time now (before ++ (x ∷ after))
    → clock_cmp (greatest_from now (map (λ y. time y.item) (before ++ (x ∷ [])))) x.clock ≡ Equal
told_at time now [] after x h = h.0
told_at time now (y ∷ before) after x h = told_at time (later now (time y.item)) before after x h.1

-- the same at each item of the run
pub clock-law : {A : Type 0} (time : A → Option Stamp) (is_refusal : A → Bool) (files : List (List A))
    (before after : List (Clocked A)) (x : Clocked A)
    → run time is_refusal (map opened_track files) ≡ before ++ (x ∷ after)
    → clock_cmp (greatest (map (λ y. time y.item) (before ++ (x ∷ [])))) x.clock ≡ Equal
clock-law time is_refusal files before after x e =
    told_at time None before after x (subst (ClocksAreTold time None) e (run-clocks time is_refusal files))

-- No clock is above one after it, nor is that clock above the first.
abbrev pub NeverFalls : {A : Type 0} → Option Stamp → List (Clocked A) → Type 0
NeverFalls clock [] = ⊤
NeverFalls clock (x ∷ xs) = AtMost clock x.clock × NeverFalls x.clock xs

told_rises : {A : Type 0} (time : A → Option Stamp) (clock now : Option Stamp) (xs : List (Clocked A))
    → AtMost clock now → ClocksAreTold time now xs → NeverFalls clock xs
told_rises time clock now [] h t = tt
told_rises time clock now (x ∷ xs) h t =
    let level = equal-at_most (later now (time x.item)) x.clock t.0 in (
      at_most-trans clock now x.clock h (at_most-trans now (later now (time x.item)) x.clock
          (later-first now (time x.item)) level.0),
      told_rises time x.clock (later now (time x.item)) xs level.1 t.1,
    )

-- The clocks of a run never fall.
pub run-rises : {A : Type 0} (time : A → Option Stamp) (is_refusal : A → Bool) (files : List (List A))
    → NeverFalls None (run time is_refusal (map opened_track files))
run-rises time is_refusal files =
    told_rises time None None (run time is_refusal (map opened_track files)) refl (run-clocks time is_refusal files)
