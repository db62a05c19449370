-- Conversations by their places in a table, with their bytes.
use Rattle.std.specs.Prelude.{◌≡◌, List, Option, Some, None, Vec, slice_get}
use Rattle.std.specs.List.{AllZip}
use Rattle.std.specs.declared.alloc.Global.{Global}
use Rattle.cap_talks.specs.table.Conversations.{Conversation}
use Rattle.cap_talks.specs.table.TopRows.{talk_bytes}
use Rattle.cap_talks.specs.declared.table.top.Ranked.{Ranked}

-- It names the place of a conversation, and has the bytes of that.
pub record IsRanked (rows : List Conversation) (it : Ranked) (talk : Conversation) : Type 0 where
  pub place : slice_get rows it.place ≡ Some talk
  pub bytes : it.bytes ≡ talk_bytes talk

-- They name these conversations, one by one.
abbrev pub AreRanked : List Conversation → List Ranked → List Conversation → Type 0
AreRanked rows ranked talks = AllZip (IsRanked rows) ranked talks

-- The conversations that are shown: all of a table, or those that are named.
abbrev pub Shows : List Conversation → Option (Vec Ranked Global) → List Conversation → Type 0
Shows rows None talks = talks ≡ rows
Shows rows (Some ranked) talks = AreRanked rows ranked.items talks
