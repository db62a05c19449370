-- A row, and a table of rows, with one unit more.
use Rattle.std.specs.Prelude.{◌≡◌, ℕ, List, [], ◌∷◌, Bool, true, false, ◌+◌, ◌&&◌, not, length, nat_lt, is_some}
use Rattle.std.specs.Prelude.{if◌then◌else◌, slice_get, Option, Some, None, Result, Ok, Err}
use Rattle.std.specs.List.{list_all}
use Rattle.std.specs.Map.{lookup, values_of}
use Rattle.std.specs.Ordering.{is_lt}
use Rattle.indexmap.specs.IndexMap.{insert_entry}
use Rattle.cap_talks.specs.table.Conversations.{Conversation, row_of, is_forward, talk_key, by_time, earlier_frame}
use Rattle.cap_talks.specs.table.Conversations.{later_frame}
use Rattle.cap_talks.specs.table.Conversations.{frame_time, place_or, same_talk, rows_of}
use Rattle.cap_talks.specs.declared.table.rows.TalkKey.{TalkKey}
use Rattle.cap_talks.specs.declared.table.rows.RowDelta.{RowDelta}
use Rattle.cap_talks.specs.declared.table.rows.TalkRow.{TalkRow}
use Rattle.cap_talks.specs.declared.table.conversations.ConversationsFault.{ConversationsFault}
use Rattle.cap_talks.specs.declared.table.conversations.ConversationsFault.TheVariants.{Limit, Memory}
use Rattle.cap_talks.specs.declared.table.units.CountedUnit.{CountedUnit}
use Rattle.cap_talks.specs.declared.table.units.TimedFrame.{TimedFrame}
use Rattle.cap_time.specs.Stamp.{stamp_cmp}
use Rattle.cap_time.specs.declared.stamps.Stamp.{Stamp}

-- The rows of the conversations, by the place of the first unit of each.
pub record TalksState : Type 0 where
  pub rows : List Conversation

-- A table stands for some units if it keeps the rows of their conversations.
pub record TalksStandFor (talks : TalksState) (units : List CountedUnit) : Type 0 where
  pub rows : talks.rows ≡ rows_of units

-- how many conversations a table may have
abbrev pub talk_limit : ℕ
talk_limit = 1048576

-- the frame of a row's least or greatest time
abbrev pub row_frame : Option Stamp → ℕ → Option TimedFrame
row_frame None place = None
row_frame (Some time) place = Some (record { time = time; place = place })

-- two frames are there, the second not earlier than the first, or neither is
abbrev pub are_in_order : Option TimedFrame → Option TimedFrame → Bool
are_in_order None None = true
are_in_order None (Some last) = false
are_in_order (Some first) None = false
are_in_order (Some first) (Some last) = not (is_lt (stamp_cmp last.time first.time))

-- What is known of a unit's frames: they are in order, and if it came in one frame this is the first and the last one.
pub record IsUnitInOrder (unit : CountedUnit) : Type 0 where
  pub order : are_in_order unit.first unit.last ≡ true
  pub one : unit.frames ≡ 1 → unit.first ≡ unit.last

-- the first and the last frame of a row are in order, and those of each of some rows
abbrev pub is_in_order : TalkRow → Bool
is_in_order row = are_in_order (row_frame row.first row.first_place) (row_frame row.last row.last_place)

abbrev pub are_all_in_order : List Conversation → Bool
are_all_in_order talks = list_all (λ talk. is_in_order talk.1) talks

-- a unit of a conversation can't be counted: that is a new one, and as many stand as may
abbrev pub is_refused : ℕ → List Conversation → TalkKey → Bool
is_refused limit rows key = not (is_some (lookup (same_talk key) rows)) && not (nat_lt (length rows) limit)

-- what returns that
abbrev pub is_limit : Result (Unit {0}) ConversationsFault → Bool
is_limit (Ok _) = false
is_limit (Err Limit) = true
is_limit (Err Memory) = false

-- how many frames a row counts, and how many bytes
abbrev pub frames_of_row : TalkRow → ℕ
frames_of_row row = row.forward_frames + row.backward_frames

abbrev pub bytes_of_row : TalkRow → ℕ
bytes_of_row row = row.forward_bytes + row.backward_bytes

-- the sum over all rows of what is counted of each
abbrev pub sum_of_rows : (TalkRow → ℕ) → List Conversation → ℕ
sum_of_rows count [] = 0
sum_of_rows count (talk ∷ talks) = count talk.1 + sum_of_rows count talks

-- how many frames all rows count, and how many bytes
abbrev pub frames_in : List Conversation → ℕ
frames_in talks = sum_of_rows frames_of_row talks

abbrev pub bytes_in : List Conversation → ℕ
bytes_in talks = sum_of_rows bytes_of_row talks

-- a frame comes before the first one so far, or is the only one
abbrev pub is_earlier : TimedFrame → Option TimedFrame → Bool
is_earlier frame None = true
is_earlier frame (Some first) = is_lt (by_time frame first)

-- a frame is later than the last one so far: both are there
abbrev pub is_after : Option TimedFrame → Option Stamp → Bool
is_after None last = false
is_after (Some frame) None = false
is_after (Some frame) (Some last) = is_lt (stamp_cmp last frame.time)

-- a row with the first and the last frame of one unit more
abbrev pub with_frames : TalkRow → Option TimedFrame → Option TimedFrame → TalkRow
with_frames row first last =
    record row {
      first = frame_time (earlier_frame (row_frame row.first row.first_place) first);
      last = frame_time (later_frame (row_frame row.last row.last_place) last);
      first_place = place_or (earlier_frame (row_frame row.first row.first_place) first) row.first_place;
      last_place = place_or (later_frame (row_frame row.last row.last_place) last) row.last_place;
    }

-- what a unit adds to the row of its conversation
abbrev pub delta_of : CountedUnit → RowDelta
delta_of unit =
    record {
      is_forward = is_forward unit;
      frames = unit.frames;
      bytes = unit.bytes;
      first = unit.first;
      last = unit.last;
    }

-- a row with that added
abbrev pub with_delta : TalkRow → RowDelta → TalkRow
with_delta row delta =
    record (with_frames row delta.first delta.last) {
      forward_bytes = if delta.is_forward then row.forward_bytes + delta.bytes else row.forward_bytes;
      backward_bytes = if delta.is_forward then row.backward_bytes else row.backward_bytes + delta.bytes;
      forward_frames = if delta.is_forward then row.forward_frames + delta.frames else row.forward_frames;
      backward_frames = if delta.is_forward then row.backward_frames else row.backward_frames + delta.frames;
    }

-- a row with one unit of its conversation more
abbrev pub with_unit : TalkRow → CountedUnit → TalkRow
with_unit row unit = with_delta row (delta_of unit)

abbrev pub or_empty : Option TalkRow → TalkRow
or_empty None = row_of []
or_empty (Some row) = row

-- the row of a conversation, that of no unit if it has none
abbrev pub row_at : TalkKey → List Conversation → TalkRow
row_at key rows = or_empty (lookup (same_talk key) rows)

-- the rows with one unit more: that of its conversation where it stands, or after the others
abbrev pub with_talk : List Conversation → CountedUnit → List Conversation
with_talk rows unit = insert_entry same_talk rows (talk_key unit) (with_unit (row_at (talk_key unit) rows) unit)

-- the row at a place, that of no unit past the last
abbrev pub row_in : {K : Type 0} → List (K × TalkRow) → ℕ → TalkRow
row_in rows place = or_empty (slice_get (values_of rows) place)
