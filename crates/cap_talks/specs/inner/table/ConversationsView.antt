-- What the fields of a table of conversations say.
use Rattle.cap_talks.specs.declared.table.conversations.Conversations.TheInside.{Inside}
use Rattle.std.specs.Prelude.{◌≡◌, ◌≤◌, true, length}
use Rattle.cap_talks.specs.inner.table.Packed.{are_known, unpacked_talks, are_packed}
use Rattle.cap_talks.specs.table.Rows.{TalksState, talk_limit, are_all_in_order}

abbrev pub talks_view : Inside → TalksState
talks_view talks = record { rows = unpacked_talks talks.known.keys talks.rows.entries }

-- There are no more conversations than may be, the frames of each are in order, and its key is packed.
pub record IsSoundTalksInside (inside : Inside) : Type 0 where
  pub few : length (talks_view inside).rows ≤ talk_limit
  pub order : are_all_in_order (talks_view inside).rows ≡ true
  pub keys : are_packed inside.known.keys inside.rows.entries ≡ true
  pub known : are_known inside.known.keys ≡ true
