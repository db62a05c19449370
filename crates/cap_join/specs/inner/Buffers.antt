-- The buffer of a group: what it holds of the group's fragments, and where its holes are.
use Rattle.std.specs.Prelude.{◌≡◌, ℕ, List, true, false, ◌/◌, ◌<◌, ◌||◌, not, max, length, slice_index}
use Rattle.cap_join.specs.Holes.{Span, is_within, in_hole, IsChain}
use Rattle.cap_join.specs.Fragments.{Piece, AreShaped}
use Rattle.cap_join.specs.ByteMap.{is_covered, byte_at, greatest_end, rounded}

-- A buffer holds some fragments, the latest first: its holes are the blocks that none covers, and each other byte is
-- that of the byte map.
pub record Maps (bytes : List ℕ) (hole : ℕ) (ps : List Piece) : Type 0 where
  pub spans : List Span
  pub chain : IsChain bytes 0 (length bytes) hole spans
  pub shaped : AreShaped ps
  pub length_is : length bytes ≡ rounded (greatest_end ps)
  pub holes : (i : ℕ) → i < length bytes → in_hole spans i ≡ not (is_covered ps (i / 8))
  pub filled : (i : ℕ) → i < length bytes → is_covered ps (i / 8) ≡ true → slice_index bytes i ≡ byte_at ps i

-- A buffer of at least a length, whose added part is a hole.
pub record Grown (size : ℕ) (old : List ℕ) (ss : List Span) (at : ℕ) (new : List ℕ) : Type 0 where
  pub length_is : length new ≡ max (length old) size
  pub spans : List Span
  pub chain : IsChain new 0 (length new) at spans
  pub holes : (i : ℕ) → in_hole spans i ≡ (in_hole ss i || is_within (length old) (length new) i)
  pub kept_bytes : (i : ℕ) → i < length old → in_hole ss i ≡ false → slice_index new i ≡ slice_index old i
