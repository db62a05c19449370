-- What the rows of conversations are, in other words than those of their definitions.
use Rattle.std.specs.Prelude.{◌≡◌, List, [], ◌∷◌, Bool, false, ◌==◌, ◌&&◌, ◌||◌, Option, Some, None, Contains}
use Rattle.std.specs.List.{AllByRecursion}
use Rattle.std.specs.Ordering.{is_lt}
use Rattle.std.specs.declared.cmp.Ordering.{Ordering}
use Rattle.cap_talks.specs.declared.table.units.TimedFrame.{TimedFrame}
use Rattle.cap_talks.specs.table.Rows.{frames_in, bytes_in}
use Rattle.cap_talks.specs.table.Conversations.{talk_key, same_end, same_talk, by_time, by_time_down, least_frame}
use Rattle.cap_talks.specs.table.Conversations.{greatest_frame}
use Rattle.cap_talks.specs.table.Conversations.{frames_of, units_bytes, rows_of}
use Rattle.cap_talks.specs.declared.table.units.CountedUnit.{CountedUnit}

-- two units go the same way between two ends, or one of them goes back
abbrev pub goes_along : CountedUnit → CountedUnit → Bool
goes_along a b = same_end a.source b.source && same_end a.destination b.destination

abbrev pub goes_back : CountedUnit → CountedUnit → Bool
goes_back a b = same_end a.source b.destination && same_end a.destination b.source

-- Units are of one conversation if they have one protocol and the same two ends, whichever is the source.
abbrev pub KeyLaw : Type 0
KeyLaw = (a b : CountedUnit) → same_talk (talk_key a) (talk_key b)
    ≡ ((a.protocol == b.protocol) && (goes_along a b || goes_back a b))

-- the frames of some units that have the least times of each, and those that have the greatest
abbrev pub with_frame : Option TimedFrame → List TimedFrame → List TimedFrame
with_frame None frames = frames
with_frame (Some frame) frames = frame ∷ frames

abbrev pub firsts : List CountedUnit → List TimedFrame
firsts [] = []
firsts (unit ∷ units) = with_frame unit.first (firsts units)

abbrev pub lasts : List CountedUnit → List TimedFrame
lasts [] = []
lasts (unit ∷ units) = with_frame unit.last (lasts units)

-- It is one of the frames, and none of them stands before it in the order; if there is none they are none.
abbrev pub IsFirstIn : (TimedFrame → TimedFrame → Ordering) → List TimedFrame → Option TimedFrame → Type 0
IsFirstIn cmp frames None = frames ≡ []
IsFirstIn cmp frames (Some frame) = Contains frames frame
    × AllByRecursion (λ other. is_lt (cmp other frame) ≡ false) frames

-- The frames that give the printed times are the first by time, and by time from the greatest down, and then by place.
pub record FrameLaw (units : List CountedUnit) : Type 0 where
  pub first : IsFirstIn by_time (firsts units) (least_frame units)
  pub last : IsFirstIn by_time_down (lasts units) (greatest_frame units)

-- All rows together count all frames and bytes of the units, each once.
pub record SumLaw (units : List CountedUnit) : Type 0 where
  pub frames : frames_in (rows_of units) ≡ frames_of units
  pub bytes : bytes_in (rows_of units) ≡ units_bytes units
