-- How many rows there are, and what all of them count, with one unit more.
use Rattle.std.proofs.Common.{◌≡◌, ℕ, suc, ◌+◌, ◌≤◌, Bool, cond, List, [], ◌∷◌, length, refl, arith, Some, Result}
use Rattle.std.proofs.Common.{is_some}
use Rattle.std.specs.Prelude.{OnOk, OnErr}
use Rattle.std.specs.Map.{lookup}
use Rattle.std.proofs.lemmas.Bool.{ltb-true}
use Rattle.indexmap.specs.IndexMap.{insert_entry}
use Rattle.cap_talks.specs.table.Conversations.{Conversation, talk_key, row_of, same_talk}
use Rattle.cap_talks.specs.table.Rows.{is_limit, is_refused, sum_of_rows, frames_of_row, frames_in, bytes_of_row}
use Rattle.cap_talks.specs.table.Rows.{bytes_in}
use Rattle.cap_talks.specs.table.Rows.{with_unit, or_empty, row_at, with_talk}
use Rattle.cap_talks.specs.declared.table.rows.TalkKey.{TalkKey}
use Rattle.cap_talks.specs.declared.table.rows.TalkRow.{TalkRow}
use Rattle.cap_talks.specs.declared.table.conversations.ConversationsFault.{ConversationsFault}
use Rattle.cap_talks.specs.declared.table.units.CountedUnit.{CountedUnit}

pub on_ok : {T E P Q : Type 0} (r : Result T E) → (P → Q) → OnOk r P → OnOk r Q
on_ok r f p = grind arith

-- What rows count, each by the same measure, of which an empty row has none.
module _ (count : TalkRow → ℕ) (empty : count (row_of []) ≡ 0) where
  -- a conversation's row counts no more than all
  row-within : (key : TalkKey) (rows : List Conversation) → count (row_at key rows) ≤ sum_of_rows count rows
  row-within key [] = omega (arith, empty)
  row-within key (talk ∷ rows) = grind (arith, row-within key rows)

  -- a row that counts so much more than the one that it is put for
  sum-more : (key : TalkKey) (w : TalkRow) (n : ℕ) (rows : List Conversation) → count w ≡ count (row_at key rows) + n
      → sum_of_rows count (insert_entry same_talk rows key w) ≡ sum_of_rows count rows + n
  sum-more key w n [] h = omega (arith, h, empty)
  sum-more key w n (talk ∷ rows) h = by (same_talk key talk.0) h (sum-more key w n rows)
    where
      by : (t : Bool) → count w ≡ count (or_empty (cond t (Some talk.1) (lookup (same_talk key) rows))) + n
          → (count w ≡ count (row_at key rows) + n → sum_of_rows count (insert_entry same_talk rows key w)
          ≡ sum_of_rows count rows + n)
          → sum_of_rows count (cond t ((talk.0, w) ∷ rows) (talk ∷ insert_entry same_talk rows key w))
          ≡ (count talk.1 + sum_of_rows count rows) + n
      by t is rest = grind arith

frames_with : (row : TalkRow) (unit : CountedUnit)
    → frames_of_row (with_unit row unit) ≡ frames_of_row row + unit.frames
frames_with row unit = grind arith

bytes_with : (row : TalkRow) (unit : CountedUnit) → bytes_of_row (with_unit row unit) ≡ bytes_of_row row + unit.bytes
bytes_with row unit = grind arith

pub frames-within : (key : TalkKey) (rows : List Conversation) → frames_of_row (row_at key rows) ≤ frames_in rows
frames-within key rows = row-within frames_of_row refl key rows

pub bytes-within : (key : TalkKey) (rows : List Conversation) → bytes_of_row (row_at key rows) ≤ bytes_in rows
bytes-within key rows = row-within bytes_of_row refl key rows

-- one unit more
pub frames_in-more : (rows : List Conversation) (unit : CountedUnit)
    → frames_in (with_talk rows unit) ≡ frames_in rows + unit.frames
frames_in-more rows unit = search (sum-more, frames_with)

pub bytes_in-more : (rows : List Conversation) (unit : CountedUnit)
    → bytes_in (with_talk rows unit) ≡ bytes_in rows + unit.bytes
bytes_in-more rows unit = search (sum-more, bytes_with)

-- how many rows there are then
length-more : (key : TalkKey) (w : TalkRow) (rows : List Conversation)
    → length (insert_entry same_talk rows key w) ≡ length rows + cond (is_some (lookup (same_talk key) rows)) 0 1
length-more key w [] = refl
length-more key w (talk ∷ rows) = by (same_talk key talk.0) (length-more key w rows)
  where
    by : (t : Bool) → length (insert_entry same_talk rows key w)
        ≡ length rows + cond (is_some (lookup (same_talk key) rows)) 0 1
        → length (cond t ((talk.0, w) ∷ rows) (talk ∷ insert_entry same_talk rows key w))
        ≡ suc (length rows) + cond (is_some (cond t (Some talk.1) (lookup (same_talk key) rows))) 0 1
    by t rest = grind arith

-- the table stays within its limit, whatever is answered
pub few-kept : (limit : ℕ) (result : Result (Unit {0}) ConversationsFault) (old new : List Conversation)
    (unit : CountedUnit)
    → OnOk result (new ≡ with_talk old unit)
    → is_limit result ≡ is_refused limit old (talk_key unit) → OnErr result (new ≡ old) → length old ≤ limit
    → length new ≤ limit
few-kept limit result old new unit more refused kept few = grind (arith, length-more, ltb-true)
