-- The clocks that the feeds of a merge have reached have seconds below 2^65.
use Rattle.std.proofs.Common.{◌≡◌, ℕ, suc, true, false, IsTrue, List, ◌∷◌, length, ◌<◌, Some, None, arith, ap, ◌∙◌, sym}
use Rattle.std.proofs.Common.{inl, inr, Option, IfSome, Result, Bool, Ok, pos, ◌^◌}
use Rattle.std.specs.Prelude.{◌<ℤ◌, replicate, map, is_some}
use Rattle.std.specs.List.{list_all}
use Rattle.std.proofs.lemmas.List.{length-map}
use Rattle.cap_bytes.specs.declared.faults.Fault.{Fault}
use Rattle.cap_bytes.specs.declared.faults.Refusal.{Refusal}
use Rattle.cap_source.specs.Feed.{Feed, FeedKeeps, SameItems, Knows}
use Rattle.cap_source.specs.declared.feeds.Head.TheVariants as heads
use Rattle.cap_source.specs.declared.packets.Meta.{Meta}
use Rattle.cap_source.specs.Times.{meta_time}
use Rattle.cap_time.specs.Stamp.{seconds_of}
use Rattle.cap_time.specs.Clock.{later}
use Rattle.cap_time.specs.declared.stamps.Stamp.{Stamp}
use Rattle.cap_merge.specs.declared.lanes.Lane.{Lane}
use Rattle.cap_merge.specs.inner.First.{fresh_lane, lane_at, first_place}
use Rattle.cap_merge.specs.Parts.{Part, part, parts, turns, is_bounded, AreBounded}
use Rattle.cap_merge.proofs.Placing.{place_within}
use Rattle.cap_merge.specs.inner.Merge.{LearnsBy, LearnsAll, StopsAt, AsksAll, PassesAt}

-- a clock that moves to a time is within them if both are
later_bounded : (clock time : Option Stamp) → IfSome time (λ t. seconds_of t <ℤ pos (2 ^ 65)) → is_bounded clock ≡ true
    → is_bounded (later clock time) ≡ true
later_bounded clock time h k = grind arith

-- A feed tells that a packet comes next, and the clock moves to its time.
pub learns-packet : (clock : Option Stamp) (next : Option (Result Bool Refusal)) (time : Option Stamp)
    (old new : Feed) (meta : Meta)
    (reached : Option Stamp)
    → is_some next ≡ false → (m : Meta) × Knows old (heads.Packet m) new → new.known ≡ Some (heads.Packet meta)
    → reached ≡ later clock time
    → time ≡ meta_time meta → IfSome time (λ t. seconds_of t <ℤ pos (2 ^ 65)) → FeedKeeps old new
    → (IsTrue old.told → SameItems old new)
    → LearnsBy (part (record { clock = clock; next = next }) old).lane.head
    (part (record { clock = clock; next = next }) old)
    (part (record { clock = reached; next = Some (Ok true) }) new)
learns-packet clock None time old new meta reached free (m, knows) known is at within keeps items = (
  heads.Packet m,
  record {
    lane = cc (knows.known);
    bounded = λ h. rw is (later_bounded clock time within h);
    knows = knows;
    keeps = keeps;
    items = items;
  },
)
learns-packet clock (Some coming) time old new meta reached free found known is at within keeps items = cc

all_learned : (ps qs : List Part) → LearnsAll ps qs → AreBounded ps → AreBounded qs
all_learned (p ∷ ps) (q ∷ qs) l h = grind (arith, all_learned ps qs l.1)
all_learned ps qs l g = grind arith

some_learned : (fault : Fault) (ps qs : List Part) → StopsAt fault ps qs → AreBounded ps → AreBounded qs
some_learned fault (p ∷ ps) (q ∷ qs) (inl l) h = cc
some_learned fault (p ∷ ps) (q ∷ qs) (inr l) h = grind (arith, some_learned fault ps qs l.1)
some_learned fault ps qs l h = grind arith

-- asking keeps them so
pub asked-bounded : {T : Type 0} (ps qs : List Part) (r : Result T Fault) → AsksAll ps r qs → AreBounded ps
    → AreBounded qs
asked-bounded ps qs r l h = grind (arith, all_learned, some_learned)

-- and so does a pass
pub passed-bounded : (ps qs : List Part) (place : ℕ) → PassesAt ps place qs → AreBounded ps → AreBounded qs
passed-bounded (p ∷ ps) (q ∷ qs) (suc place) l h = grind (arith, passed-bounded ps qs place l.1)
passed-bounded ps qs place l g = grind arith

-- nothing was reached at first
new_bounded : (n : ℕ) (feeds : List Feed) → AreBounded (parts (replicate n fresh_lane) feeds)
new_bounded (suc n) (f ∷ fs) = new_bounded n fs
new_bounded n feeds = grind arith

pub new-bounded : (lanes : List Lane) (n : ℕ) (feeds : List Feed) → lanes ≡ replicate n fresh_lane
    → AreBounded (parts lanes feeds)
new-bounded lanes n feeds e = ap (λ ls. list_all (λ p. is_bounded p.lane.clock) (parts ls feeds)) e
    ∙ new_bounded n feeds

bounded_at : (ls : List Lane) (fs : List Feed) (place : ℕ) → length fs ≡ length ls → place < length ls
    → AreBounded (parts ls fs) → is_bounded (lane_at ls place).clock ≡ true
bounded_at (l ∷ ls) (f ∷ fs) (suc place) e h b = grind (arith, bounded_at ls fs place)
bounded_at ls fs place e h b = grind arith

in_bounds : (clock : Option Stamp) → is_bounded clock ≡ true → IfSome clock (λ c. seconds_of c <ℤ pos (2 ^ 65))
in_bounds clock e = grind arith

-- so the clock of what comes first is
pub first-bounded : {F : Type 0} (f : F → Feed) (ls : List Lane) (fs : List F) (place : ℕ) → length ls ≡ length fs
    → first_place (turns (parts ls (map f fs))) ≡ Some place
    → AreBounded (parts ls (map f fs)) → IfSome (lane_at ls place).clock (λ c. seconds_of c <ℤ pos (2 ^ 65))
first-bounded f ls fs place e h b =
    in_bounds (lane_at ls place).clock (bounded_at ls (map f fs) place (length-map fs f ∙ sym e)
    (place_within f ls fs place e h) b)
