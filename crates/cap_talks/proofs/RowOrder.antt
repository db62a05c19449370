-- The first frame of a row isn't later than its last one.
use Rattle.std.proofs.Common.{◌≡◌, refl, ℕ, zero, suc, true, false, List, [], ◌∷◌, Option, Result, arith}
use Rattle.std.specs.Prelude.{OnOk, OnErr}
use Rattle.std.specs.Ordering.{is_lt}
use Rattle.indexmap.specs.IndexMap.{insert_entry}
use Rattle.cap_time.specs.Stamp.{stamp_cmp}
use Rattle.cap_time.specs.inner.StampLaws.{stamp_cmp_total}
use Rattle.cap_time.specs.declared.stamps.Stamp.{Stamp}
use Rattle.cap_time.proofs.Chosen.{not_trans}
use Rattle.cap_talks.specs.table.Conversations.{Conversation, earlier_frame, later_frame, frame_time, place_or}
use Rattle.cap_talks.specs.table.Conversations.{same_talk}
use Rattle.cap_talks.specs.table.Rows.{row_frame, are_in_order, is_in_order, are_all_in_order, is_after, row_at, row_in}
use Rattle.cap_talks.specs.table.Rows.{with_frames, with_unit, with_talk}
use Rattle.cap_talks.specs.declared.table.rows.TalkKey.{TalkKey}
use Rattle.cap_talks.specs.declared.table.rows.TalkRow.{TalkRow}
use Rattle.cap_talks.specs.declared.table.conversations.ConversationsFault.{ConversationsFault}
use Rattle.cap_talks.specs.declared.table.units.CountedUnit.{CountedUnit}
use Rattle.cap_talks.specs.declared.table.units.TimedFrame.{TimedFrame}

-- of times in order, the outer two
before : (a b c : Stamp) → is_lt (stamp_cmp b a) ≡ false → is_lt (stamp_cmp b c) ≡ true → is_lt (stamp_cmp a c) ≡ true
before a b c le lt = grind (arith, not_trans, stamp_cmp_total)

-- a frame that comes after the last one so far leaves the first one
first-kept : (row : TalkRow) (frame : Option TimedFrame) → is_in_order row ≡ true → is_after frame row.last ≡ true
    → earlier_frame (row_frame row.first row.first_place) frame ≡ row_frame row.first row.first_place
first-kept row frame order late = grind (arith, before, stamp_cmp_total.antisymm)

pub frames-after : (row : TalkRow) (frame : Option TimedFrame) (time : Option Stamp) (place : ℕ)
    → is_in_order row ≡ true → is_after frame row.last ≡ true
    → time ≡ frame_time frame → place ≡ place_or frame row.last_place
    → record row { last = time; last_place = place } ≡ with_frames row frame frame
frames-after row frame time place order late last last_place = grind (arith, first-kept, stamp_cmp_total.antisymm)

-- a row stays in order
frames-kept : (e l f g : Option TimedFrame) → are_in_order e l ≡ true → are_in_order f g ≡ true
    → are_in_order (earlier_frame e f) (later_frame l g) ≡ true
frames-kept e l f g own others = grind (arith, not_trans, stamp_cmp_total, stamp_cmp_total.antisymm)

same_frame : (frame : Option TimedFrame) (place : ℕ) → row_frame (frame_time frame) (place_or frame place) ≡ frame
same_frame frame place = grind arith

row-kept : (row : TalkRow) (unit : CountedUnit) → is_in_order row ≡ true → are_in_order unit.first unit.last ≡ true
    → is_in_order (with_unit row unit) ≡ true
row-kept row unit own others = grind (arith, frames-kept, same_frame)

-- each of some rows is in order, and so is that of no unit
pub row_in-order : (rows : List Conversation) (place : ℕ) → are_all_in_order rows ≡ true
    → is_in_order (row_in rows place) ≡ true
row_in-order [] place all = refl
row_in-order (talk ∷ rows) zero all = grind arith
row_in-order (talk ∷ rows) (suc place) all = grind (arith, row_in-order rows place)

row_at-order : (key : TalkKey) (rows : List Conversation) → are_all_in_order rows ≡ true
    → is_in_order (row_at key rows) ≡ true
row_at-order key [] all = refl
row_at-order key (talk ∷ rows) all = grind (arith, row_at-order key rows)

-- a row that is put in a row's place, or after the others
inserted : (key : TalkKey) (row : TalkRow) (rows : List Conversation) → is_in_order row ≡ true
    → are_all_in_order rows ≡ true
    → are_all_in_order (insert_entry same_talk rows key row) ≡ true
inserted key row [] own all = grind arith
inserted key row (talk ∷ rows) own all = grind (arith, inserted key row rows)

-- the rows stay in order, whatever is answered
pub order-kept : (result : Result (Unit {0}) ConversationsFault) (old new : List Conversation) (unit : CountedUnit)
    → OnOk result (new ≡ with_talk old unit) → OnErr result (new ≡ old)
    → are_in_order unit.first unit.last ≡ true → are_all_in_order old ≡ true → are_all_in_order new ≡ true
order-kept result old new unit more kept others all = grind (arith, row-kept, row_at-order, inserted)
