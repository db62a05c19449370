-- The feeds of a merge at one moment, each with what is known of it.
use Rattle.std.specs.Prelude.{◌≡◌, ⊤, ◌+◌, ◌^◌, pos, int_lt, ℕ, zero, suc, Bool, true, false, ◌&&◌, ◌||◌, List, [], ◌∷◌}
use Rattle.std.specs.Prelude.{length, map, max, not, Option, Some, None, is_some, Result, Ok, Err, if◌then◌else◌, ◌==◌}
use Rattle.std.specs.List.{list_all, list_any, flat_map, range_with_len, slice_get}
use Rattle.std.specs.Option.{option_and_then}
use Rattle.std.specs.Ordering.{is_lt, is_gt}
use Rattle.cap_bytes.specs.declared.faults.Fault.{Fault}
use Rattle.cap_bytes.specs.declared.faults.Fault.TheVariants.{Refused, Read, Write, Memory}
use Rattle.cap_time.specs.declared.stamps.Stamp.{Stamp}
use Rattle.cap_time.specs.Stamp.{seconds_of}
use Rattle.cap_source.specs.declared.feeds.Head.{Head}
use Rattle.cap_source.specs.declared.feeds.Head.TheVariants as heads
use Rattle.cap_source.specs.declared.feeds.FileEnd.{FileEnd}
use Rattle.cap_source.specs.declared.feeds.FeedHeld.{FeedHeld}
use Rattle.cap_bytes.specs.declared.formats.Format.TheVariants.{Pcap}
use Rattle.cap_source.specs.Feed.{Item, packet, refused, Feed}
use Rattle.cap_source.specs.Items.{no_kinds}
use Rattle.cap_source.specs.Times.{meta_time}
use Rattle.cap_merge.specs.declared.lanes.Lane.{Lane}
use Rattle.cap_time.specs.Clock.{clock_cmp}
use Rattle.cap_merge.specs.inner.First.{Turn, head_coming, has_next, first_place}
use Rattle.cap_merge.specs.Run.{Track, Clocked, run}

-- the time of the packet that comes next, if it has one
abbrev pub head_time : Head → Option Stamp
head_time (heads.Packet meta) = meta_time meta
head_time (heads.Refused refusal) = None
head_time heads.End = None

abbrev pub item_time : Item → Option Stamp
item_time (packet meta frame) = meta_time meta
item_time (refused refusal) = None

abbrev pub is_refusal : Item → Bool
is_refusal (packet meta frame) = false
is_refusal (refused refusal) = true

-- What is known of a feed: the clock that it has reached, by the packets that were passed and by the packet that is
-- known to come next, and what comes next, once that was asked for.
pub record LaneState : Type 0 where
  pub clock : Option Stamp
  pub head : Option Head

-- A feed, and what is known of it.
pub record Part : Type 0 where
  pub lane : LaneState
  pub feed : Feed

-- a feed with its lane: what comes next is what the feed knows, once the lane says that it does
abbrev pub part : Lane → Feed → Part
part lane feed = record {
  lane = record { clock = lane.clock; head = if is_some lane.next then feed.known else None };
  feed = feed;
}

-- each feed with its lane
abbrev pub parts : List Lane → List Feed → List Part
parts [] feeds = []
parts (l ∷ ls) [] = []
parts (l ∷ ls) (f ∷ fs) = part l f ∷ parts ls fs

-- Feed i is of file i alone, from 1.
abbrev pub AreNumberedFeeds : List Feed → Type 0
AreNumberedFeeds feeds = map (λ f. f.files) feeds ≡ map (λ n. n ∷ []) (range_with_len 1 (length feeds))

-- What a lane says comes next is what its feed knows.
abbrev pub Matches : Lane → Feed → Type 0
Matches lane feed = head_coming (part lane feed).lane.head ≡ lane.next

-- What each lane says comes next is what its feed knows.
abbrev pub LanesAgree : List Lane → List Feed → Type 0
LanesAgree lanes feeds = map (λ p. head_coming p.lane.head) (parts lanes feeds) ≡ map (λ l. l.next) lanes

-- the time of what is known to come next
abbrev pub known_time : Option Head → Option Stamp
known_time None = None
known_time (Some head) = head_time head

-- the time of what is known to come next isn't above the clock that was reached
abbrev pub HasReached : List Part → Type 0
HasReached ps = list_all (λ p. not (is_lt (clock_cmp p.lane.clock (known_time p.lane.head)))) ps ≡ true

-- a clock's seconds are below 2^65, as those of every stamp of 64-bit units and a 64-bit offset
abbrev pub is_bounded : Option Stamp → Bool
is_bounded None = true
is_bounded (Some clock) = int_lt (seconds_of clock) (pos (2 ^ 65))

-- those of all clocks that were reached are
abbrev pub AreBounded : List Part → Type 0
AreBounded ps = list_all (λ p. is_bounded p.lane.clock) ps ≡ true

-- nothing comes any more
abbrev pub is_end_head : Option Head → Bool
is_end_head None = false
is_end_head (Some (heads.Packet meta)) = false
is_end_head (Some (heads.Refused refusal)) = false
is_end_head (Some heads.End) = true

-- the turn of a part
abbrev pub turn : Part → Turn
turn p = record { has_item = has_next p.lane.head; clock = p.lane.clock }

-- the turns of some parts
abbrev pub turns : List Part → List Turn
turns ps = map turn ps

-- the part whose item comes first
unfoldable pub first_part : List Part → Option Part
first_part ps = option_and_then (slice_get ps) (first_place (turns ps))

abbrev pub are_known : List Part → Bool
are_known ps = list_all (λ p. is_some p.lane.head) ps

-- what comes next is known of each feed but that at a place
abbrev pub known_but : List Part → ℕ → Bool
known_but [] place = false
known_but (p ∷ ps) zero = are_known ps
known_but (p ∷ ps) (suc place) = is_some p.lane.head && known_but ps place

-- the same if there is such a place; else nothing is said
abbrev pub others_known : List Part → Option ℕ → Bool
others_known ps None = true
others_known ps (Some place) = known_but ps place

-- If there is such a place, what comes next is known of the feeds elsewhere.
abbrev pub OthersKnown : List Part → Option ℕ → Type 0
OthersKnown ps place = others_known ps place ≡ true

-- If what comes next of all is known, a place that is kept is that of the part whose item comes first.
abbrev pub IsFound : List Part → Option ℕ → Type 0
IsFound ps place = (if is_some place && are_known ps then first_place (turns ps) else place) ≡ place

abbrev pub part_head : Option Part → Option Head
part_head None = Some heads.End
part_head (Some p) = p.lane.head

-- what comes next of all
unfoldable pub known_of : List Part → Option Head
known_of ps = if are_known ps then part_head (first_part ps) else None

abbrev pub frame_by : Option Part → List ℕ
frame_by None = []
frame_by (Some p) = p.feed.frame

abbrev pub clock_by : Option Part → Option Stamp
clock_by None = None
clock_by (Some p) = p.lane.clock

-- the clock of what comes next of all
unfoldable pub clock_of : List Part → Option Stamp
clock_of ps = clock_by (first_part ps)

-- each feed's items to come, after the clock that it has reached
abbrev pub tracks : List Part → List (Track Item)
tracks ps = map (λ p. record { clock = p.lane.clock; items = p.feed.items }) ps

-- the run of what is to come, each item with its clock
unfoldable pub run_of : List Part → List (Clocked Item)
run_of ps = run item_time is_refusal (tracks ps)

abbrev pub has_file : List ℕ → ℕ → Bool
has_file files file = list_any (λ f. f == file) files

-- how a file ends, as its feed says
unfoldable pub endings_of : List Part → ℕ → FileEnd
endings_of [] file =
    record {
      ending = record { format = Pcap; skipped = 0; cut = None };
      interfaces = 1;
      named = 0;
      kinds = no_kinds;
      comments = None;
    }
endings_of (p ∷ ps) file = if has_file p.feed.files file then p.feed.endings file else endings_of ps file

-- the fault of a read that failed of the first feed of which it isn't known what comes next
unfoldable pub broken_of : List Part → Option Fault
broken_of [] = None
broken_of (p ∷ ps) = if is_some p.lane.head then broken_of ps else p.feed.broken

-- where the packets of a file begin that are to come, as its feed says
unfoldable pub places_of : List Part → ℕ → ℕ
places_of [] file = 0
places_of (p ∷ ps) file = if has_file p.feed.files file then p.feed.places file else places_of ps file

-- whether the device of a file can fail, as its feed says
unfoldable pub feeds_can_fail : List Part → ℕ → Bool
feeds_can_fail [] file = false
feeds_can_fail (p ∷ ps) file = if has_file p.feed.files file then p.feed.can_fail file else feeds_can_fail ps file

-- the greatest of some numbers of the parts
abbrev pub most_of : (Part → ℕ) → List Part → ℕ
most_of number [] = 0
most_of number (p ∷ ps) = max (number p) (most_of number ps)

abbrev pub feeds_held : List Part → FeedHeld
feeds_held ps =
    record {
      window = most_of (λ p. p.feed.held.window) ps;
      interfaces = most_of (λ p. p.feed.held.interfaces) ps;
      failed = list_any (λ p. p.feed.held.failed) ps;
    }

-- how many packets still come at most, of all feeds
abbrev pub left_of : List Part → ℕ
left_of [] = 0
left_of (p ∷ ps) = p.feed.left + left_of ps

-- The feeds as one: the items to come are the run's. What comes next is known if that of each feed is.
unfoldable pub merged_feed : List Part → Feed
merged_feed ps =
    record {
      files = flat_map (λ p. p.feed.files) ps;
      told = list_all (λ p. p.feed.told) ps;
      items = map (λ x. x.item) (run_of ps);
      endings = endings_of ps;
      known = known_of ps;
      frame = frame_by (first_part ps);
      broken = broken_of ps;
      places = places_of ps;
      left = left_of ps;
      can_fail = feeds_can_fail ps;
      held = feeds_held ps;
    }

-- The clock isn't above that of any item to come, whatever the devices do.
abbrev pub ClocksFrom : Option Stamp → List Part → Type 0
ClocksFrom clock ps = list_all (λ p. is_end_head p.lane.head || not (is_gt (clock_cmp clock p.lane.clock))) ps ≡ true

-- What is below the clocks of all items to come stays so.
abbrev pub MovesClocks : List Part → List Part → Type 0
MovesClocks old new = (clock : Option Stamp) → ClocksFrom clock old → ClocksFrom clock new

-- what `head` does to the run
abbrev pub KeepsRun : List Part → Result Head Fault → List Part → Type 0
KeepsRun old (Ok head) new = run_of new ≡ run_of old
KeepsRun old (Err (Refused refusal)) new = ⊥
KeepsRun old (Err (Read file offset)) new = ⊤
KeepsRun old (Err Write) new = ⊥
KeepsRun old (Err Memory) new = run_of new ≡ run_of old

-- The same of a call that returns a refusal as a fault.
abbrev pub ShowsRun : {A : Type 0} → List Part → Result A Fault → List Part → Type 0
ShowsRun old (Ok _) new = run_of new ≡ run_of old
ShowsRun old (Err (Refused refusal)) new = run_of new ≡ run_of old
ShowsRun old (Err (Read file offset)) new = ⊤
ShowsRun old (Err Write) new = ⊥
ShowsRun old (Err Memory) new = run_of new ≡ run_of old

-- The run begins with an item of that clock.
abbrev pub BeginsAt : Option Stamp → List (Clocked Item) → Type 0
BeginsAt clock [] = ⊥
BeginsAt clock (x ∷ xs) = x.clock ≡ clock

-- what is known after a packet was passed
abbrev pub passed_lane : LaneState → LaneState
passed_lane lane = record { clock = lane.clock; head = None }

-- nothing is known of a feed
abbrev pub new_lane : LaneState
new_lane = record { clock = None; head = None }

-- feeds of which nothing is known
abbrev pub new_parts : List Feed → List Part
new_parts feeds = map (λ f. record { lane = new_lane; feed = f }) feeds

-- the greater numbers of two, and whether a device of one has failed
abbrev pub both_held : FeedHeld → FeedHeld → FeedHeld
both_held a b =
    record { window = max a.window b.window; interfaces = max a.interfaces b.interfaces; failed = a.failed || b.failed }
