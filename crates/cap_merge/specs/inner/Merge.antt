-- What asking the feeds of a merge does to them.
use Rattle.std.specs.Prelude.{◌≡◌, Bool, true, false, ⊤, ℕ, zero, suc, IsTrue, List, [], ◌∷◌, Option, Some, None, ◌⊎◌}
use Rattle.std.specs.Prelude.{Result, Ok, Err, is_ok}
use Rattle.cap_bytes.specs.declared.faults.Fault.{Fault}
use Rattle.cap_bytes.specs.declared.faults.Fault.TheVariants.{Refused, Read, Write, Memory}
use Rattle.cap_source.specs.declared.feeds.Head.{Head}
use Rattle.cap_source.specs.Feed.{FeedKeeps, SameItems, Knows, GivesHead, KeepsItems, FeedPasses, IsPacket}
use Rattle.cap_merge.specs.declared.lanes.Lane.{Lane}
use Rattle.cap_time.specs.Clock.{later}
use Rattle.cap_merge.specs.inner.First.{head_coming}
use Rattle.cap_merge.specs.Parts.{Part, LaneState, head_time, is_bounded, passed_lane, merged_feed}

-- What a lane does with a fault of its feed: a refusal is what comes next, another fault is returned.
abbrev pub LaneAnswers : {T : Type 0} → Lane → Fault → Result T Fault → Lane → Type 0
LaneAnswers old (Refused refusal) result new = (is_ok result ≡ true)
    × (new ≡ record { clock = old.clock; next = Some (Err refusal) })
LaneAnswers old (Read file offset) result new = (result ≡ Err (Read file offset)) × (new ≡ old)
LaneAnswers old Write result new = (result ≡ Err Write) × (new ≡ old)
LaneAnswers old Memory result new = (result ≡ Err Memory) × (new ≡ old)

-- what is known of a feed that has told what comes next
abbrev pub learned : LaneState → Head → LaneState
learned lane head = record { clock = later lane.clock (head_time head); head = Some head }

-- What comes next of a feed is asked for, and is known then.
pub record LaneLearns (p : Part) (head : Head) (q : Part) : Type 0 where
  pub lane : q.lane ≡ learned p.lane head
  pub bounded : is_bounded p.lane.clock ≡ true → is_bounded q.lane.clock ≡ true
  pub knows : Knows p.feed head q.feed
  pub keeps : FeedKeeps p.feed q.feed
  pub items : IsTrue p.feed.told → SameItems p.feed q.feed

-- A feed whose next is known stays as it is, another is asked.
abbrev pub LearnsBy : Option Head → Part → Part → Type 0
LearnsBy None p q = (head : Head) × LaneLearns p head q
LearnsBy (Some head) p q = q ≡ p

-- A feed can't tell what comes next.
pub record LaneStops (p : Part) (fault : Fault) (q : Part) : Type 0 where
  pub unknown : p.lane.head ≡ None
  pub lane : q.lane ≡ p.lane
  pub gives : GivesHead p.feed (Err fault) q.feed
  pub keeps : FeedKeeps p.feed q.feed
  pub items : IsTrue p.feed.told → KeepsItems p.feed (Err fault) q.feed

-- what asking one feed does
abbrev pub Asks : {T : Type 0} → Part → Result T Fault → Part → Type 0
Asks p (Ok x) q = LearnsBy p.lane.head p q
Asks p (Err fault) q = LaneStops p fault q

-- All feeds are asked.
abbrev pub LearnsAll : List Part → List Part → Type 0
LearnsAll [] [] = ⊤
LearnsAll [] (q ∷ qs) = ⊥
LearnsAll (p ∷ ps) [] = ⊥
LearnsAll (p ∷ ps) (q ∷ qs) = LearnsBy p.lane.head p q × LearnsAll ps qs

-- The feeds are asked up to the first that can't tell; those after it stay as they are.
abbrev pub StopsAt : Fault → List Part → List Part → Type 0
StopsAt fault [] qs = ⊥
StopsAt fault (p ∷ ps) [] = ⊥
StopsAt fault (p ∷ ps) (q ∷ qs) = (LaneStops p fault q × (qs ≡ ps)) ⊎ (LearnsBy p.lane.head p q × StopsAt fault ps qs)

-- what asking all feeds in turn does
abbrev pub AsksAll : {T : Type 0} → List Part → Result T Fault → List Part → Type 0
AsksAll ps (Ok x) qs = LearnsAll ps qs
AsksAll ps (Err fault) qs = StopsAt fault ps qs

-- The same of a call that returns a refusal as a fault, once all feeds were asked.
abbrev pub LooksAll : {T : Type 0} → List Part → Result T Fault → List Part → Type 0
LooksAll ps (Ok x) qs = LearnsAll ps qs
LooksAll ps (Err (Refused refusal)) qs = LearnsAll ps qs
LooksAll ps (Err (Read file offset)) qs = StopsAt (Read file offset) ps qs
LooksAll ps (Err Write) qs = ⊥
LooksAll ps (Err Memory) qs = StopsAt Memory ps qs

-- A feed has no packet at hand: it is as it was, or knows what comes next, which isn't noted.
pub record PeeksPart (p q : Part) : Type 0 where
  pub unknown : p.lane.head ≡ None
  pub lane : q.lane ≡ p.lane
  pub feed : (q.feed ≡ p.feed) ⊎ ((head : Head) × Knows p.feed head q.feed)
  pub keeps : FeedKeeps p.feed q.feed
  pub items : IsTrue p.feed.told → SameItems p.feed q.feed

-- What asking one feed does whether it has a packet at hand: if so the packet is known, and if not nothing more is
-- noted.
abbrev pub LaneShows : Part → Bool → Part → Type 0
LaneShows p true q = LearnsBy p.lane.head p q
LaneShows p false q = (q ≡ p) ⊎ PeeksPart p q

-- A feed at a place has no packet at hand; the others stay as they are.
abbrev pub PeeksAt : List Part → ℕ → List Part → Type 0
PeeksAt [] place qs = ⊥
PeeksAt (p ∷ ps) place [] = ⊥
PeeksAt (p ∷ ps) zero (q ∷ qs) = ((q ≡ p) ⊎ PeeksPart p q) × (qs ≡ ps)
PeeksAt (p ∷ ps) (suc place) (q ∷ qs) = (q ≡ p) × PeeksAt ps place qs

-- what asking the feed at a place does, if what comes next of the others is known
abbrev pub ShowsAt : List Part → ℕ → Bool → List Part → Type 0
ShowsAt ps place true qs = LearnsAll ps qs
ShowsAt ps place false qs = PeeksAt ps place qs

-- What comes next is what such a call returns, unless a device failed or a growth was refused.
abbrev pub TellsNext : Option Head → Result Bool Fault → Type 0
TellsNext head (Ok is_packet) = head_coming head ≡ Some (Ok is_packet)
TellsNext head (Err (Refused refusal)) = head_coming head ≡ Some (Err refusal)
TellsNext head (Err (Read file offset)) = ⊤
TellsNext head (Err Write) = ⊤
TellsNext head (Err Memory) = ⊤

-- Whether the packet that comes first is at hand: if so all feeds were asked, and if not, asking all of them does what
-- it would have done before.
abbrev pub ShowsFirst : List Part → Bool → List Part → Type 0
ShowsFirst ps true qs = LearnsAll ps qs × TellsNext (merged_feed qs).known (Ok true)
ShowsFirst ps false qs = (result : Result Bool Fault) (rs : List Part) → LooksAll qs result rs → LooksAll ps result rs

-- The packet of a part is passed: its feed drops it, and nothing more is known.
pub record PassesPart (p q : Part) : Type 0 where
  pub lane : q.lane ≡ passed_lane p.lane
  pub passes : FeedPasses p.feed q.feed
  pub keeps : FeedKeeps p.feed q.feed

-- What the feed of the part at a place knows to come next is a packet.
abbrev pub IsPacketAt : List Part → ℕ → Type 0
IsPacketAt [] place = ⊥
IsPacketAt (p ∷ ps) zero = IsPacket p.feed.known
IsPacketAt (p ∷ ps) (suc place) = IsPacketAt ps place

-- The packet of the part at a place is passed; the others stay as they are.
abbrev pub PassesAt : List Part → ℕ → List Part → Type 0
PassesAt [] place qs = ⊥
PassesAt (p ∷ ps) place [] = ⊥
PassesAt (p ∷ ps) zero (q ∷ qs) = PassesPart p q × (qs ≡ ps)
PassesAt (p ∷ ps) (suc place) (q ∷ qs) = (q ≡ p) × PassesAt ps place qs
