-- The conversations of some counted units, which are listed by the places of the frames that completed them (RFC 791,
-- 3.1; RFC 8200, 3; RFC 768; RFC 9293, 3.1).
use Rattle.std.specs.Prelude.{ℕ, List, [], ◌∷◌, Bool, ◌+◌, ◌==◌, ◌&&◌, not, nat_eq, filter, map, Option, Some, None}
use Rattle.std.specs.Prelude.{if◌then◌else◌}
use Rattle.std.specs.Ordering.{nat_cmp, ordering_then, is_lt, is_gt}
use Rattle.std.specs.Option.{option_eq}
use Rattle.std.specs.declared.cmp.Ordering.{Ordering}
use Rattle.cap_time.specs.Stamp.{stamp_cmp}
use Rattle.cap_talks.specs.table.Units.{end_cmp, number_of, version_of}
use Rattle.cap_talks.specs.declared.table.rows.TalkKey.{TalkKey}
use Rattle.cap_talks.specs.declared.table.rows.TalkRow.{TalkRow}
use Rattle.cap_talks.specs.declared.table.units.Address.{Address}
use Rattle.cap_talks.specs.declared.table.units.CountedUnit.{CountedUnit}
use Rattle.cap_talks.specs.declared.table.units.Endpoint.{Endpoint}
use Rattle.cap_talks.specs.declared.table.units.TimedFrame.{TimedFrame}
use Rattle.cap_time.specs.declared.stamps.Stamp.{Stamp}

-- a unit goes from the lesser of its ends, or from an end to itself
abbrev pub is_forward : CountedUnit → Bool
is_forward unit = not (is_gt (end_cmp unit.source unit.destination))

-- a unit's conversation: its protocol and its two ends, the lesser first
abbrev pub talk_key : CountedUnit → TalkKey
talk_key unit =
    if is_forward unit then record { protocol = unit.protocol; lesser = unit.source; greater = unit.destination }
    else record { protocol = unit.protocol; lesser = unit.destination; greater = unit.source }

-- Frames by time, and then by place; and by time from the greatest down, and then by place.
abbrev pub by_time : TimedFrame → TimedFrame → Ordering
by_time a b = ordering_then (stamp_cmp a.time b.time) (nat_cmp a.place b.place)

abbrev pub by_time_down : TimedFrame → TimedFrame → Ordering
by_time_down a b = ordering_then (stamp_cmp b.time a.time) (nat_cmp a.place b.place)

-- of two frames that of the lesser time, of equal times that of the lower place, or the only one
abbrev pub earlier_frame : Option TimedFrame → Option TimedFrame → Option TimedFrame
earlier_frame None b = b
earlier_frame (Some a) None = Some a
earlier_frame (Some a) (Some b) = if is_lt (by_time b a) then Some b else Some a

-- of two frames that of the greater time, of equal times that of the lower place, or the only one
abbrev pub later_frame : Option TimedFrame → Option TimedFrame → Option TimedFrame
later_frame None b = b
later_frame (Some a) None = Some a
later_frame (Some a) (Some b) = if is_lt (by_time_down b a) then Some b else Some a

-- the frame of the least time among those of some units, and that of the greatest: of equal times that of the lowest
-- place
abbrev pub least_frame : List CountedUnit → Option TimedFrame
least_frame [] = None
least_frame (unit ∷ units) = earlier_frame unit.first (least_frame units)

abbrev pub greatest_frame : List CountedUnit → Option TimedFrame
greatest_frame [] = None
greatest_frame (unit ∷ units) = later_frame unit.last (greatest_frame units)

-- the time of a frame, and its place, or another one if there is no frame
abbrev pub frame_time : Option TimedFrame → Option Stamp
frame_time None = None
frame_time (Some frame) = Some frame.time

abbrev pub place_or : Option TimedFrame → ℕ → ℕ
place_or None place = place
place_or (Some frame) place = frame.place

-- how many frames some units came in, and the sum of the frames' original lengths
abbrev pub frames_of : List CountedUnit → ℕ
frames_of [] = 0
frames_of (unit ∷ units) = unit.frames + frames_of units

abbrev pub units_bytes : List CountedUnit → ℕ
units_bytes [] = 0
units_bytes (unit ∷ units) = unit.bytes + units_bytes units

-- the units that went forward, and the others
abbrev pub forward : List CountedUnit → List CountedUnit
forward units = filter is_forward units

abbrev pub backward : List CountedUnit → List CountedUnit
backward units = filter (λ unit. not (is_forward unit)) units

-- what is counted of the units of one conversation: those that went forward, the others, and their least and greatest
-- time
abbrev pub row_of : List CountedUnit → TalkRow
row_of units =
    record {
      forward_bytes = units_bytes (forward units);
      backward_bytes = units_bytes (backward units);
      first = frame_time (least_frame units);
      last = frame_time (greatest_frame units);
      forward_frames = frames_of (forward units);
      backward_frames = frames_of (backward units);
      first_place = place_or (least_frame units) 0;
      last_place = place_or (greatest_frame units) 0;
    }

-- two keys name the same conversation
abbrev pub same_address : Address → Address → Bool
same_address a b = (version_of a == version_of b) && (number_of a == number_of b)

abbrev pub same_end : Endpoint → Endpoint → Bool
same_end a b = same_address a.address b.address && (option_eq nat_eq a.port b.port)

abbrev pub same_talk : TalkKey → TalkKey → Bool
same_talk a b = (a.protocol == b.protocol) && (same_end a.lesser b.lesser && same_end a.greater b.greater)

-- the units of a conversation
abbrev pub units_of_talk : TalkKey → List CountedUnit → List CountedUnit
units_of_talk key units = filter (λ unit. same_talk key (talk_key unit)) units

-- the conversations of some units, each once, in the order of their first units
abbrev pub keys_of : List CountedUnit → List TalkKey
keys_of [] = []
keys_of (unit ∷ units) = talk_key unit ∷ filter (λ key. not (same_talk (talk_key unit) key)) (keys_of units)

-- a conversation, with what is counted of it
abbrev pub Conversation : Type 0
Conversation = TalkKey × TalkRow

-- the rows of the conversations of some units: each made from the units of its own key
unfoldable pub rows_of : List CountedUnit → List Conversation
rows_of units = map (λ key. (key, row_of (units_of_talk key units))) (keys_of units)
