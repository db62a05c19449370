-- Which lane's item comes first: that of the least clock, of equal ones the first.
use Rattle.std.specs.Prelude.{◌≡◌, ℕ, zero, suc, Bool, true, false, List, length, map, get_or, Option, Some, None, ◌&&◌}
use Rattle.std.specs.Prelude.{◌+◌, Result, Ok, Err, if◌then◌else◌}
use Rattle.std.specs.Ordering.{is_lt}
use Rattle.cap_time.specs.declared.stamps.Stamp.{Stamp}
use Rattle.cap_bytes.specs.declared.faults.Refusal.{Refusal}
use Rattle.cap_source.specs.declared.feeds.Head.{Head}
use Rattle.cap_source.specs.declared.feeds.Head.TheVariants as heads
use Rattle.cap_merge.specs.declared.lanes.Lane.{Lane}
use Rattle.cap_time.specs.Clock.{clock_cmp}

-- what a lane says of what its feed knows to come next: whether a packet or the end, or which refusal
abbrev pub head_coming : Option Head → Option (Result Bool Refusal)
head_coming None = None
head_coming (Some (heads.Packet meta)) = Some (Ok true)
head_coming (Some (heads.Refused refusal)) = Some (Err refusal)
head_coming (Some heads.End) = Some (Ok false)

-- an item is known to come next, by what a lane says
abbrev pub has_item : Option (Result Bool Refusal) → Bool
has_item None = false
has_item (Some (Ok is_packet)) = is_packet
has_item (Some (Err refusal)) = true

-- an item is known to come next
abbrev pub has_next : Option Head → Bool
has_next head = has_item (head_coming head)

-- a lane of which nothing is known
abbrev pub fresh_lane : Lane
fresh_lane = record { clock = None; next = None }

-- the lane at a place
abbrev pub lane_at : List Lane → ℕ → Lane
lane_at lanes place = get_or lanes place fresh_lane

-- What says which of several is first: whether an item is known to come next, and the clock that was reached.
pub record Turn : Type 0 where
  pub has_item : Bool
  pub clock : Option Stamp

-- the turn of a lane
abbrev pub lane_turn : Lane → Turn
lane_turn lane = record { has_item = has_item lane.next; clock = lane.clock }

-- the turns of some lanes
abbrev pub lane_turns : List Lane → List Turn
lane_turns lanes = map lane_turn lanes

-- a turn of which nothing is known
abbrev pub no_turn : Turn
no_turn = record { has_item = false; clock = None }

-- the turn at a place
abbrev pub turn_at : List Turn → ℕ → Turn
turn_at turns place = get_or turns place no_turn

-- an item comes before that of an earlier turn: of equal clocks the earlier one is first
abbrev pub comes_before : Turn → Turn → Bool
comes_before turn first = turn.has_item && is_lt (clock_cmp turn.clock first.clock)

-- of the first so far and one more after it, the place of the first
abbrev pub sooner_place : List Turn → Option ℕ → ℕ → Option ℕ
sooner_place turns None place = if (turn_at turns place).has_item then Some place else None
sooner_place turns (Some first) place = if comes_before (turn_at turns place)
    (turn_at turns first) then Some place else Some first

-- the place of the first among `count` turns from the place `from` on
unfoldable pub first_from : List Turn → ℕ → ℕ → Option ℕ
first_from turns from zero = None
first_from turns from (suc count) = sooner_place turns (first_from turns from count) (from + count)

-- the place of the first among the first `count` turns
abbrev pub first_among : List Turn → ℕ → Option ℕ
first_among turns count = first_from turns 0 count

-- the place of the first of all
abbrev pub first_place : List Turn → Option ℕ
first_place turns = first_among turns (length turns)

-- The turns are the same, except at a place.
abbrev pub AreSameBut : List Turn → List Turn → ℕ → Type 0
AreSameBut old new place = (k : ℕ) → (k ≡ place → ⊥) → turn_at new k ≡ turn_at old k
