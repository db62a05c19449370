-- What asking all feeds, and passing the first packet, does to the feeds as one.
use Rattle.std.proofs.Common.{◌≡◌, ℕ, Bool, true, false, cond, List, [], ◌∷◌, refl, sym, ap, ◌∙◌, subst, inl, inr}
use Rattle.std.proofs.Common.{Option, Some, None, Result, Ok, Err, arith}
use Rattle.std.specs.Prelude.{◌||◌, ◌&&◌, ◌==◌, IsTrue, IfSome, is_some}
use Rattle.std.specs.List.{AllByRecursion, list_any, flat_map}
use Rattle.std.proofs.lemmas.Bool.{true≢false}
use Rattle.cap_bytes.specs.declared.faults.Fault.{Fault}
use Rattle.cap_bytes.specs.declared.faults.Fault.TheVariants.{Refused, Read, Write, Memory}
use Rattle.cap_time.specs.declared.stamps.Stamp.{Stamp}
use Rattle.cap_source.specs.declared.feeds.Head.{Head}
use Rattle.cap_source.specs.declared.feeds.Head.TheVariants as heads
use Rattle.cap_source.specs.Feed.{IsFeed, SameItems, Knows, FeedBreaks, FeedWaits, GivesHead, KeepsItems}
use Rattle.cap_merge.specs.inner.Lists.{and-both, and-none, any-back, any-front, or-back}
use Rattle.cap_time.specs.Clock.{later}
use Rattle.cap_merge.specs.Parts.{Part, LaneState, head_time, has_file, are_known, known_of, part_head, first_part}
use Rattle.cap_merge.specs.Parts.{merged_feed}
use Rattle.cap_merge.specs.Parts.{ClocksFrom}
use Rattle.cap_merge.specs.inner.Merge.{LearnsBy, LaneStops, LearnsAll, StopsAt, AsksAll}
use Rattle.cap_merge.specs.inner.Clocks.{AtMost, at_most-trans, later-first}
use Rattle.cap_merge.specs.inner.Sound.{IsSoundPart, AreFrom}
use Rattle.cap_merge.specs.inner.Lawful.{whole_known}
use Rattle.cap_merge.proofs.Breaking.{known_by, stopped-place, stopped-can_fail, stopped-again, stopped-broken}
use Rattle.cap_merge.proofs.Breaking.{learned-whole, waited-before, waited-after}
use Rattle.cap_merge.proofs.FromClock.{From, EachFrom, each-from, from-each}
use Rattle.cap_merge.proofs.Moving.{Each, learns-each, stops-each, Kept, kept-itself, kept-learns_by, ComesAlike}
use Rattle.cap_merge.proofs.Moving.{alike-itself, alike-learns_by, alike-waits, items-alike, sound-learns_by}
use Rattle.cap_merge.proofs.Moving.{sound-stops, sound-all}

failed_learns : (p q : Part) (h : Option Head) → LearnsBy h p q → q.feed.held.failed ≡ p.feed.held.failed
failed_learns p q h l = grind arith

any_failed : (ps qs : List Part) → Each (λ p q. q.feed.held.failed ≡ p.feed.held.failed) ps qs
    → list_any (λ p. p.feed.held.failed) qs ≡ list_any (λ p. p.feed.held.failed) ps
any_failed (p ∷ ps) (q ∷ qs) e = λ i. e.0 i || any_failed ps qs e.1 i
any_failed ps qs e = grind arith

failed_each : (ps qs : List Part) → Each (λ p q. q.feed.held.failed ≡ p.feed.held.failed) ps qs
    → (merged_feed qs).held.failed ≡ (merged_feed ps).held.failed
unfolding merged_feed
failed_each ps qs e = any_failed ps qs e

-- all feeds that were asked are known
pub known_all : (ps qs : List Part) → LearnsAll ps qs → are_known qs ≡ true
known_all (p ∷ ps) (q ∷ qs) l = rw (known_by p q p.lane.head refl l.0) (known_all ps qs l.1)
known_all ps qs l = grind arith

-- if all were known before, nothing changes
same_by : (p q : Part) (h : Option Head) → is_some h ≡ true → LearnsBy h p q → q ≡ p
same_by p q h e l = grind arith

pub same_all : (ps qs : List Part) → are_known ps ≡ true → LearnsAll ps qs → qs ≡ ps
same_all (p ∷ ps) (q ∷ qs) k l =
    let both = and-both (is_some p.lane.head) (are_known ps) k in
    λ i. same_by p q p.lane.head both.0 l.0 i ∷ same_all ps qs both.1 l.1 i
same_all ps qs k l = grind arith

-- one that isn't known leaves all unknown
pub unknown_stops : (fault : Fault) (ps qs : List Part) → StopsAt fault ps qs → (are_known ps ≡ false)
    × (are_known qs ≡ false)
unknown_stops fault (p ∷ ps) (q ∷ qs) (inl s) = (
  ap (λ h. is_some h && are_known ps) s.0.unknown,
  ap (λ w. is_some w.head && are_known qs) s.0.lane
      ∙ ap (λ h. is_some h && are_known qs) s.0.unknown,
)
unknown_stops fault (p ∷ ps) (q ∷ qs) (inr s) =
    let rest = unknown_stops fault ps qs s.1 in
    (and-none (is_some p.lane.head) (are_known ps) rest.0, and-none (is_some q.lane.head) (are_known qs) rest.1)
unknown_stops fault ps qs s = grind arith

unknown_feed : (ps : List Part) → are_known ps ≡ false → (merged_feed ps).known ≡ None
unfolding merged_feed known_of
unknown_feed ps e = rw e refl

same_known : (ps qs : List Part) (head : Head) (b : Bool) → are_known ps ≡ b → LearnsAll ps qs → known_of qs ≡ Some head
    → IfSome (known_of ps) (λ first. (head ≡ first) × (merged_feed qs ≡ merged_feed ps))
unfolding known_of
same_known ps qs head true e l k =
    let same = same_all ps qs e l in
    subst (λ (w : Option Head). IfSome w (λ first. (head ≡ first) × (merged_feed qs ≡ merged_feed ps)))
    (sym (sym (ap (λ xs. cond (are_known xs) (part_head (first_part xs)) None) same) ∙ k)) (refl, ap merged_feed same)
same_known ps qs head false e l k = rw e tt

pub knows-asked : (ps qs : List Part) (head : Head) → LearnsAll ps qs → known_of qs ≡ Some head
    → AllByRecursion (λ q. IsFeed q.feed) qs
    → Knows (merged_feed ps) head (merged_feed qs)
unfolding merged_feed
knows-asked ps qs head l k f =
    record {
      known = k;
      again = same_known ps qs head (are_known ps) refl l k;
      goes = record {
        before = learned-whole ps qs l;
        after = whole_known qs (known_all ps qs l);
        failed = any_failed ps qs (learns-each (λ p q. q.feed.held.failed ≡ p.feed.held.failed)
            (λ p q _. failed_learns p q p.lane.head) ps qs f l);
      };
    }

abbrev FailsAt : ℕ → List Part → List Part → Type 0
FailsAt file ps qs = (has_file (flat_map (λ p. p.feed.files) ps) file ≡ true)
    × (list_any (λ p. p.feed.held.failed) qs ≡ true)

fails_at : (file offset : ℕ) (ps qs : List Part) → StopsAt (Read file offset) ps qs → FailsAt file ps qs
fails_at file offset (p ∷ ps) (q ∷ qs) (inl s) = (
  any-front (λ f. f == file) p.feed.files (flat_map (λ x. x.feed.files) ps) s.0.gives.of,
  rw s.0.gives.failed refl,
)
fails_at file offset (p ∷ ps) (q ∷ qs) (inr s) =
    let rest = fails_at file offset ps qs s.1 in (
      any-back (λ f. f == file) p.feed.files (flat_map (λ x. x.feed.files) ps) rest.0,
      or-back q.feed.held.failed (list_any (λ x. x.feed.held.failed) qs) rest.1,
    )
fails_at file offset ps qs s = grind arith

pub asked-keeps : {T : Type 0} (ps qs : List Part) (result : Result T Fault) → AsksAll ps result qs
    → AllByRecursion (λ q. IsFeed q.feed) qs → Each Kept ps qs
asked-keeps ps qs (Ok x) a f = learns-each Kept (λ p q _. kept-learns_by p q p.lane.head) ps qs f a
asked-keeps ps qs (Err fault) a f = stops-each Kept fault kept-itself (λ p q _. kept-learns_by p q p.lane.head)
    (λ p q s. s.keeps) ps qs f a

pub asked-sound : {T : Type 0} (ps qs : List Part) (result : Result T Fault) → AsksAll ps result qs
    → AllByRecursion (λ q. IsFeed q.feed) qs
    → AllByRecursion IsSoundPart ps → AllByRecursion IsSoundPart qs
asked-sound ps qs (Ok x) a f s =
    sound-all ps qs (learns-each (λ p q. IsSoundPart p → IsSoundPart q)
    (λ p q _ l k. sound-learns_by p q p.lane.head k l) ps qs f a) s
asked-sound ps qs (Err fault) a f s =
    sound-all ps qs (stops-each (λ p q. IsSoundPart p → IsSoundPart q) fault (λ p k. k)
    (λ p q _ l k. sound-learns_by p q p.lane.head k l) (λ p q l k. sound-stops p q fault l) ps qs f a) s

pub items-asked : (ps qs : List Part) → LearnsAll ps qs → AllByRecursion (λ q. IsFeed q.feed) qs
    → IsTrue (merged_feed ps).told → SameItems (merged_feed ps) (merged_feed qs)
unfolding merged_feed
items-asked ps qs l f t =
    items-alike ps qs (learns-each ComesAlike (λ p q g. alike-learns_by p q p.lane.head g) ps qs f l) t

pub never : (ps qs : List Part) (fault : Fault) → ((p q : Part) → LaneStops p fault q → ⊥) → StopsAt fault ps qs → ⊥
never [] qs fault f s = s
never (p ∷ ps) [] fault f s = s
never (p ∷ ps) (q ∷ qs) fault f (inl s) = f p q s.0
never (p ∷ ps) (q ∷ qs) fault f (inr s) = never ps qs fault f s.1

breaks-stopped : (ps qs : List Part) (file offset : ℕ) → AreFrom 1 qs → StopsAt (Read file offset) ps qs
    → FeedBreaks (merged_feed ps) file offset (merged_feed qs)
unfolding merged_feed
breaks-stopped ps qs file offset a h =
    let at_fault = fails_at file offset ps qs h in
    let unknown = unknown_stops (Read file offset) ps qs h in
    record {
      before = unknown_feed ps unknown.0;
      after = unknown_feed qs unknown.1;
      of = at_fault.0;
      again = stopped-again file offset ps qs h;
      broken = stopped-broken file offset ps qs h;
      place = stopped-place 1 file offset ps qs a h;
      failed = at_fault.1;
      can_fail = stopped-can_fail 1 file offset ps qs a h;
    }

waits-stopped : (ps qs : List Part) → StopsAt Memory ps qs → AllByRecursion (λ q. IsFeed q.feed) qs
    → FeedWaits (merged_feed ps) (merged_feed qs)
unfolding merged_feed
waits-stopped ps qs s f =
    let unknown = unknown_stops Memory ps qs s in
    record {
      before = unknown_feed ps unknown.0;
      after = unknown_feed qs unknown.1;
      goes = record {
        before = waited-before ps qs s;
        after = waited-after ps qs s;
        failed = failed_each ps qs (stops-each (λ p q. q.feed.held.failed ≡ p.feed.held.failed) Memory (λ p. refl)
            (λ p q _. failed_learns p q p.lane.head) (λ p q h. h.gives.goes.failed) ps qs f s);
      };
    }

pub gives-stopped : (ps qs : List Part) (fault : Fault) → AreFrom 1 qs → StopsAt fault ps qs
    → AllByRecursion (λ q. IsFeed q.feed) qs → GivesHead (merged_feed ps) (Err fault) (merged_feed qs)
gives-stopped ps qs (Refused refusal) a s f = never ps qs (Refused refusal) (λ p q h. h.gives) s
gives-stopped ps qs (Read file offset) a s f = breaks-stopped ps qs file offset a s
gives-stopped ps qs Write a s f = never ps qs Write (λ p q h. h.gives) s
gives-stopped ps qs Memory a s f = waits-stopped ps qs s f

items-waited : (ps qs : List Part) → StopsAt Memory ps qs → AllByRecursion (λ q. IsFeed q.feed) qs
    → IsTrue (merged_feed ps).told → SameItems (merged_feed ps) (merged_feed qs)
unfolding merged_feed
items-waited ps qs s f told = items-alike ps qs
    (stops-each ComesAlike Memory alike-itself (λ p q g. alike-learns_by p q p.lane.head g) alike-waits ps qs f s) told

pub items-stopped : (ps qs : List Part) (fault : Fault) → StopsAt fault ps qs → AllByRecursion (λ q. IsFeed q.feed) qs
    → IsTrue (merged_feed ps).told
    → KeepsItems (merged_feed ps) (Err fault) (merged_feed qs)
items-stopped ps qs (Refused refusal) s f t = never ps qs (Refused refusal) (λ p q h. h.gives) s
items-stopped ps qs (Read file offset) s f t = tt
items-stopped ps qs Write s f t = never ps qs Write (λ p q h. h.gives) s
items-stopped ps qs Memory s f t = items-waited ps qs s f t

not_end : (p : Part) → p.lane.head ≡ None → p.lane.head ≡ Some heads.End → ⊥
not_end p e h = true≢false (sym (ap is_some (sym e ∙ h)))

from_learns : (clock : Option Stamp) (p q : Part) (h : Option Head) → p.lane.head ≡ h → LearnsBy h p q → From clock p
    → From clock q
from_learns clock p q None e l (inl ends) = absurd (not_end p e ends)
from_learns clock p q None e l (inr above) =
    inr (subst (λ (w : Option Stamp). AtMost clock w) (sym (ap (λ w. w.clock) l.1.lane))
    (at_most-trans clock p.lane.clock (later p.lane.clock (head_time l.0)) above
    (later-first p.lane.clock (head_time l.0))))
from_learns clock p q (Some head) e l f = subst (From clock) (sym l) f

from_all : (clock : Option Stamp) (ps qs : List Part) → Each (λ p q. From clock p → From clock q) ps qs
    → EachFrom clock ps → EachFrom clock qs
from_all clock (p ∷ ps) (q ∷ qs) e f = (e.0 f.0, from_all clock ps qs e.1 f.1)
from_all clock ps qs e f = grind arith

pub clocks-asked : {T : Type 0} (ps qs : List Part) (result : Result T Fault) → AsksAll ps result qs
    → AllByRecursion (λ q. IsFeed q.feed) qs
    → (clock : Option Stamp) → ClocksFrom clock ps → ClocksFrom clock qs
clocks-asked ps qs (Ok x) a f clock = λ h. each-from clock qs
    (from_all clock ps qs (learns-each (λ p q. From clock p → From clock q)
    (λ p q _. from_learns clock p q p.lane.head refl) ps qs f a) (from-each clock ps h))
clocks-asked ps qs (Err fault) a f clock = λ h. each-from clock qs
    (from_all clock ps qs (stops-each (λ p q. From clock p → From clock q) fault (λ p g. g)
    (λ p q _. from_learns clock p q p.lane.head refl)
    (λ p q s. subst (λ (w : LaneState). From clock p → From clock (record { lane = w; feed = q.feed })) (sym s.lane)
    (λ g. g)) ps qs f a) (from-each clock ps h))
