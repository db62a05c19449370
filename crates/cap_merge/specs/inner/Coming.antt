-- What is to come of several feeds, by what is known of each.
use Rattle.std.proofs.Common.{◌≡◌, ℕ, true, false, cond, List, [], ◌∷◌, ◌++◌, drop, refl, sym, ap, ◌∙◌, subst, Less}
use Rattle.std.proofs.Common.{Option, Some, arith}
use Rattle.std.specs.Prelude.{IsTrue, IfSome, is_some}
use Rattle.std.specs.List.{AllByRecursion}
use Rattle.std.specs.Ordering.{is_lt, is_gt}
use Rattle.std.proofs.lemmas.List.{map-append}
use Rattle.cap_time.specs.declared.stamps.Stamp.{Stamp}
use Rattle.cap_source.specs.declared.feeds.Head.{Head}
use Rattle.cap_source.specs.Feed.{Item, Leads, IsFeed}
use Rattle.cap_merge.specs.inner.Lists.{all-back, all-front}
use Rattle.cap_time.specs.Clock.{clock_cmp, later}
use Rattle.cap_merge.specs.Run.{Track, Clocked, run, through_first, HeadClock, IsFirst}
use Rattle.cap_merge.specs.inner.First.{has_next}
use Rattle.cap_merge.specs.Parts.{Part, item_time, head_time, known_time, is_refusal, tracks, run_of}
use Rattle.cap_merge.specs.inner.MergedList.{merged-next, merged-none, passed}
use Rattle.cap_merge.specs.inner.Leading.{Split}
use Rattle.cap_merge.specs.inner.Sound.{IsSoundPart}

later_stays : (a b : Option Stamp) → is_lt (clock_cmp a b) ≡ false → later a b ≡ a
later_stays a b e = rw e refl

-- A part of which something is known: its items begin with it.
pub leads_known : (p : Part) (h : Head) → IsSoundPart p → IsFeed p.feed → p.lane.head ≡ Some h → IsTrue p.feed.told
    → Leads (Some h) p.feed.frame p.feed.items
leads_known p h s f e t =
    let known : p.feed.known ≡ Some h =
    subst (λ (w : Option Head). IfSome w (λ head. p.feed.known ≡ Some head)) e s.agrees in
    subst (λ (w : Option Head). Leads w p.feed.frame p.feed.items) known (f.leads t)

-- and the clock that was reached is the next item's
pub reached_known : (p : Part) (h : Head) → IsSoundPart p → p.lane.head ≡ Some h
    → later p.lane.clock (head_time h) ≡ p.lane.clock
reached_known p h s e = later_stays p.lane.clock (head_time h)
    (subst (λ (w : Option Head). is_lt (clock_cmp p.lane.clock (known_time w)) ≡ false) e s.reached)

clock_ahead : (Holds : Option Stamp → Type 0) (h : Head) (clock : Option Stamp) (frame : List ℕ) (items : List Item)
    → Leads (Some h) frame items → later clock (head_time h) ≡ clock → (has_next (Some h) ≡ true → Holds clock)
    → HeadClock item_time Holds clock items
clock_ahead Holds h clock frame items l e f = grind arith

ahead_by : (Holds : Option Stamp → Type 0) (p : Part) (h : Option Head) → p.lane.head ≡ h → is_some h ≡ true
    → IsSoundPart p
    → IsFeed p.feed → IsTrue p.feed.told
    → (has_next p.lane.head ≡ true → Holds p.lane.clock) → HeadClock item_time Holds p.lane.clock p.feed.items
ahead_by Holds p h e k s f t g = grind (arith, clock_ahead, leads_known, reached_known)

-- a part of which all is known and told
pub record IsReadyPart (p : Part) : Type 0 where
  pub sound : IsSoundPart p
  pub lawful : IsFeed p.feed
  pub told : IsTrue p.feed.told
  pub known : is_some p.lane.head ≡ true

ahead_all : (Holds : Option Stamp → Type 0) (ps : List Part) → AllByRecursion IsReadyPart ps
    → AllByRecursion (λ p. has_next p.lane.head ≡ true → Holds p.lane.clock) ps
    → AllByRecursion (λ t. HeadClock item_time Holds t.clock t.items) (tracks ps)
ahead_all Holds [] r f = tt
ahead_all Holds (p ∷ ps) r f =
    (ahead_by Holds p p.lane.head refl r.0.known r.0.sound r.0.lawful r.0.told f.0, ahead_all Holds ps r.1 f.1)

-- what is left of a part when its next item is passed
abbrev pub track_left : Part → Track Item
track_left p = record { clock = p.lane.clock; items = drop 1 p.feed.items }

unfoldable pub run_behind : List Part → Part → List Part → List (Clocked Item)
run_behind before p after = run item_time is_refusal (tracks before ++ (track_left p ∷ tracks after))

run-next : (time : Item → Option Stamp) (before after : List (Track Item)) (clock : Option Stamp) (x : Item)
    (xs : List Item)
    → IsFirst time before (later clock (time x)) after
    → run time is_refusal (before ++ (record { clock = clock; items = x ∷ xs } ∷ after))
    ≡ record { clock = later clock (time x); item = x }
    ∷ cond (is_refusal x) [] (run time is_refusal (before ++ (passed time clock x xs ∷ after)))
run-next time before after clock x xs h = ap (through_first (λ y. is_refusal y.item))
    (merged-next time before after clock x xs h)

-- The run begins with the next item of the part that comes first, with the clock that the part has reached.
pub run-first : (ps : List Part) (first : Part) (x : Item) → AllByRecursion IsReadyPart ps → (s : Split ps first)
    → first.feed.items ≡ x ∷ drop 1 first.feed.items → later first.lane.clock (item_time x) ≡ first.lane.clock
    → run_of ps ≡ record { clock = first.lane.clock; item = x }
    ∷ cond (is_refusal x) [] (run_behind s.before first s.after)
unfolding run_of run_behind
run-first ps first x r s begins clock_is =
    let ready = subst (λ (xs : List Part). AllByRecursion IsReadyPart xs) s.whole r in
    let back = all-back IsReadyPart s.before (first ∷ s.after) ready in
    let is_first : IsFirst item_time (tracks s.before) (later first.lane.clock (item_time x)) (tracks s.after) =
    subst (λ (w : Option Stamp). IsFirst item_time (tracks s.before) w (tracks s.after)) (sym clock_is)
    (record {
      below = ahead_all (λ h. clock_cmp first.lane.clock h ≡ Less) s.before
          (all-front IsReadyPart s.before (first ∷ s.after) ready) s.below;
      not_above = ahead_all (λ h. is_gt (clock_cmp first.lane.clock h) ≡ false) s.after back.1 s.not_above;
    }) in
    ap (λ xs. run item_time is_refusal (tracks xs)) s.whole
    ∙ ap (run item_time is_refusal) (map-append (λ p. record { clock = p.lane.clock; items = p.feed.items }) s.before
    (first ∷ s.after))
    ∙ ap (λ items. run item_time is_refusal (tracks s.before
    ++ (record { clock = first.lane.clock; items = items } ∷ tracks s.after))) begins
    ∙ run-next item_time (tracks s.before) (tracks s.after) first.lane.clock x (drop 1 first.feed.items) is_first
    ∙ (λ i. record { clock = clock_is i; item = x }
    ∷ cond (is_refusal x) [] (run item_time is_refusal
    (tracks s.before ++ (record { clock = clock_is i; items = drop 1 first.feed.items } ∷ tracks s.after))))

-- if no item comes next, the run is empty
ended_items : (p : Part) (h : Option Head) → p.lane.head ≡ h → IsReadyPart p → has_next h ≡ false → p.feed.items ≡ []
ended_items p h e r n = grind (arith, leads_known)

ended_all : (ps : List Part) → AllByRecursion IsReadyPart ps → AllByRecursion (λ p. has_next p.lane.head ≡ false) ps
    → AllByRecursion (λ t. t.items ≡ []) (tracks ps)
ended_all [] r f = tt
ended_all (p ∷ ps) r f = (ended_items p p.lane.head refl r.0 f.0, ended_all ps r.1 f.1)

pub run-none : (ps : List Part) → AllByRecursion IsReadyPart ps → AllByRecursion (λ p. has_next p.lane.head ≡ false) ps
    → run_of ps ≡ []
unfolding run_of
run-none ps r f = ap (through_first (λ y. is_refusal y.item)) (merged-none item_time (tracks ps) (ended_all ps r f))
