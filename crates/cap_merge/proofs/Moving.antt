-- Parts that move on one by one, and the feeds as one.
use Rattle.std.proofs.Common.{◌≡◌, ℕ, suc, ◌≤◌, true, List, [], ◌∷◌, ◌++◌, refl, sym, ap, ◌∙◌, subst, arith, inl, inr}
use Rattle.std.proofs.Common.{Option}
use Rattle.std.specs.Prelude.{map, ⊤, IsTrue}
use Rattle.std.specs.List.{AllByRecursion, list_all, flat_map}
use Rattle.cap_bytes.specs.declared.faults.Fault.{Fault}
use Rattle.cap_bytes.specs.declared.faults.Fault.TheVariants.{Memory}
use Rattle.cap_source.specs.declared.feeds.Head.{Head}
use Rattle.cap_source.specs.Feed.{IsFeed, FeedKeeps, SameItems}
use Rattle.cap_merge.specs.Run.{placed_from, placed_all, in_order}
use Rattle.cap_merge.specs.Parts.{Part, item_time, tracks, run_of, endings_of, places_of, feeds_can_fail, left_of}
use Rattle.cap_merge.specs.Parts.{merged_feed}
use Rattle.cap_merge.specs.inner.Merge.{LaneLearns, LearnsBy, LaneStops, LearnsAll, StopsAt}
use Rattle.cap_merge.specs.inner.Clocks.{clock_total}
use Rattle.cap_merge.specs.inner.Sound.{IsSoundPart, AreFrom}

-- Each part and what became of it.
abbrev pub Each : (Part → Part → Type 0) → List Part → List Part → Type 0
Each R [] [] = ⊤
Each R [] (q ∷ qs) = ⊥
Each R (p ∷ ps) [] = ⊥
Each R (p ∷ ps) (q ∷ qs) = R p q × Each R ps qs

pub each-itself : (R : Part → Part → Type 0) → ((p : Part) → R p p) → (ps : List Part) → Each R ps ps
each-itself R f [] = tt
each-itself R f (p ∷ ps) = (f p, each-itself R f ps)

same_each : (R : Part → Part → Type 0) → ((p : Part) → R p p) → (ps qs : List Part) → qs ≡ ps → Each R ps qs
same_each R f ps qs e = subst (λ (xs : List Part). Each R ps xs) (sym e) (each-itself R f ps)

pub learns-each : (R : Part → Part → Type 0) → ((p q : Part) → IsFeed q.feed → LearnsBy p.lane.head p q → R p q)
    → (ps qs : List Part) → AllByRecursion (λ q. IsFeed q.feed) qs → LearnsAll ps qs → Each R ps qs
learns-each R f (p ∷ ps) (q ∷ qs) l h = (f p q l.0 h.0, learns-each R f ps qs l.1 h.1)
learns-each R f ps qs l k = grind arith

pub stops-each : (R : Part → Part → Type 0) (fault : Fault) → ((p : Part) → R p p)
    → ((p q : Part) → IsFeed q.feed → LearnsBy p.lane.head p q → R p q)
    → ((p q : Part) → LaneStops p fault q → R p q)
    → (ps qs : List Part) → AllByRecursion (λ q. IsFeed q.feed) qs → StopsAt fault ps qs → Each R ps qs
stops-each R fault i f g (p ∷ ps) (q ∷ qs) l (inl h) = (g p q h.0, same_each R i ps qs h.1)
stops-each R fault i f g (p ∷ ps) (q ∷ qs) l (inr h) = (f p q l.0 h.0, stops-each R fault i f g ps qs l.1 h.1)
stops-each R fault i f g ps qs l h = grind arith

abbrev pub Kept : Part → Part → Type 0
Kept p q = FeedKeeps p.feed q.feed

pub kept-itself : (p : Part) → Kept p p
kept-itself p = record {
  files = refl;
  told = λ t. t;
  can_fail = λ file t. t;
  places = λ file. omega arith;
  left =
      omega arith;
}

pub kept-learns_by : (p q : Part) (h : Option Head) → LearnsBy h p q → Kept p q
kept-learns_by p q h l = grind arith

files_kept : (ps qs : List Part) → Each Kept ps qs → flat_map (λ p. p.feed.files) qs ≡ flat_map (λ p. p.feed.files) ps
files_kept (p ∷ ps) (q ∷ qs) k = λ i. k.0.files i ++ files_kept ps qs k.1 i
files_kept ps qs k = grind arith

told_kept : (ps qs : List Part) → Each Kept ps qs → list_all (λ p. p.feed.told) ps ≡ true
    → list_all (λ p. p.feed.told) qs ≡ true
told_kept (p ∷ ps) (q ∷ qs) k t = grind (arith, told_kept ps qs k.1)
told_kept ps qs k t = grind arith

can_fail_kept : (ps qs : List Part) (file : ℕ) → Each Kept ps qs → feeds_can_fail qs file ≡ true
    → feeds_can_fail ps file ≡ true
unfolding feeds_can_fail
can_fail_kept (p ∷ ps) (q ∷ qs) file k t = grind (arith, can_fail_kept ps qs file k.1)
can_fail_kept ps qs file k t = grind arith

places_kept : (ps qs : List Part) (file : ℕ) → Each Kept ps qs → places_of ps file ≤ places_of qs file
unfolding places_of
places_kept (p ∷ ps) (q ∷ qs) file k = grind (arith, places_kept ps qs file k.1)
places_kept ps qs file k = grind arith

left_kept : (ps qs : List Part) → Each Kept ps qs → left_of qs ≤ left_of ps
left_kept (p ∷ ps) (q ∷ qs) k = omega (arith, k.0.left, left_kept ps qs k.1)
left_kept ps qs k = grind arith

-- What is kept of each is kept of the feeds as one.
pub keeps-each : (ps qs : List Part) → Each Kept ps qs → FeedKeeps (merged_feed ps) (merged_feed qs)
unfolding merged_feed
keeps-each ps qs k = search (files_kept, told_kept, can_fail_kept, places_kept, left_kept)

pub from-each : (n : ℕ) (ps qs : List Part) → Each Kept ps qs → AreFrom n ps → AreFrom n qs
from-each n (p ∷ ps) (q ∷ qs) k a = (k.0.files ∙ a.0, from-each (suc n) ps qs k.1 a.1)
from-each n ps qs k a = grind arith

-- If the devices tell, what is to come of the part has the same clocks, and its files end alike.
pub record ComesAlike (p q : Part) : Type 0 where
  pub files : q.feed.files ≡ p.feed.files
  pub placed : IsTrue p.feed.told → (file place : ℕ)
      → placed_from item_time file place q.lane.clock q.feed.items
      ≡ placed_from item_time file place p.lane.clock p.feed.items
  pub endings : IsTrue p.feed.told → (file : ℕ) → q.feed.endings file ≡ p.feed.endings file

pub alike-itself : (p : Part) → ComesAlike p p
alike-itself p = record { files = refl; placed = λ t file place. refl; endings = λ t file. refl }

pub alike-learns_by : (p q : Part) (h : Option Head) → IsFeed q.feed → LearnsBy h p q → ComesAlike p q
alike-learns_by p q h f l = grind arith

pub alike-waits : (p q : Part) → LaneStops p Memory q → ComesAlike p q
alike-waits p q s = grind arith

placed_alike : (ps qs : List Part) (file : ℕ) → Each ComesAlike ps qs → list_all (λ p. p.feed.told) ps ≡ true
    → placed_all item_time file (tracks qs) ≡ placed_all item_time file (tracks ps)
placed_alike (p ∷ ps) (q ∷ qs) file a t = grind (arith, placed_alike ps qs (suc file) a.1)
placed_alike ps qs file a t = grind arith

-- The run is the same.
pub run-alike : (ps qs : List Part) → Each ComesAlike ps qs → list_all (λ p. p.feed.told) ps ≡ true
    → run_of qs ≡ run_of ps
unfolding run_of
run-alike ps qs a t = grind (arith, in_order, placed_alike)

endings_alike : (ps qs : List Part) (file : ℕ) → Each ComesAlike ps qs → list_all (λ p. p.feed.told) ps ≡ true
    → endings_of qs file ≡ endings_of ps file
unfolding endings_of
endings_alike (p ∷ ps) (q ∷ qs) file a t = grind (arith, endings_alike ps qs file a.1)
endings_alike ps qs file a t = grind arith

pub items-alike : (ps qs : List Part) → Each ComesAlike ps qs → list_all (λ p. p.feed.told) ps ≡ true
    → SameItems (merged_feed ps) (merged_feed qs)
unfolding merged_feed
items-alike ps qs a t = record {
  items = ap (map (λ x. x.item)) (run-alike ps qs a t);
  endings =
      λ file. endings_alike ps qs file a t;
}

sound_learns : (p : Part) (head : Head) (q : Part) → LaneLearns p head q → IsSoundPart q
sound_learns p head q l = grind (arith, clock_total)

pub sound-learns_by : (p q : Part) (h : Option Head) → IsSoundPart p → LearnsBy h p q → IsSoundPart q
sound-learns_by p q h s l = grind (arith, sound_learns)

pub sound-stops : (p q : Part) (fault : Fault) → LaneStops p fault q → IsSoundPart q
sound-stops p q fault s = grind arith

pub sound-all : (ps qs : List Part) → Each (λ p q. IsSoundPart p → IsSoundPart q) ps qs → AllByRecursion IsSoundPart ps
    → AllByRecursion IsSoundPart qs
sound-all (p ∷ ps) (q ∷ qs) e s = (e.0 s.0, sound-all ps qs e.1 s.1)
sound-all ps qs e s = grind arith
