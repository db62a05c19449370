-- The holes of a group's buffer: the parts that no fragment has filled (RFC 815, 4). A hole is described in its own
-- first 8 bytes, by two little-endian numbers of 32 bits: the place after its last byte, and where the next hole
-- begins.
use Rattle.std.specs.Prelude.{◌≡◌, ℕ, List, [], ◌∷◌, Bool, true, false, ◌+◌, ◌%◌, ◌<◌, ◌≤◌, ◌&&◌, ◌||◌, ◌⊎◌, not}
use Rattle.std.specs.Prelude.{length, drop, nat_le, nat_lt, slice_index, if◌then◌else◌}
use Rattle.cap_bytes.specs.Number.{number}
use Rattle.cap_bytes.specs.declared.numbers.Order.TheVariants.{Little}

-- the places from one up to another
pub record Span : Type 0 where
  pub from : ℕ
  pub to : ℕ

abbrev pub is_within : ℕ → ℕ → ℕ → Bool
is_within from to i = nat_le from i && nat_lt i to

-- a place lies in one of some holes
abbrev pub in_hole : List Span → ℕ → Bool
in_hole [] i = false
in_hole (s ∷ ss) i = is_within s.from s.to i || in_hole ss i

-- what names no hole
abbrev pub no_hole : ℕ
no_hole = 4294967295

-- the little-endian number of 32 bits at a place
unfoldable pub word_at : List ℕ → ℕ → ℕ
word_at bytes at = number Little 4 (drop at bytes)

-- A hole that begins at a place, of whole blocks of 8 bytes, from `low` on and up to `high`.
pub record IsHole (bytes : List ℕ) (low high at : ℕ) (s : Span) : Type 0 where
  pub here : at ≡ s.from
  pub after : low ≤ s.from
  pub some : s.from < s.to
  pub within : s.to ≤ high
  pub begins : s.from % 8 ≡ 0
  pub ends : s.to % 8 ≡ 0
  pub end_is : word_at bytes s.from ≡ s.to

-- The holes from a place on, in rising order and apart, between `low` and `high`.
abbrev pub IsChain : List ℕ → ℕ → ℕ → ℕ → List Span → Type 0
IsChain bytes low high at [] = at ≡ no_hole
IsChain bytes low high at (s ∷ ss) = IsHole bytes low high at s
    × IsChain bytes s.to high (word_at bytes (s.from + 4)) ss

-- One of some holes begins at a place and lies below another whole.
abbrev pub BeginsHole : ℕ → ℕ → List Span → Type 0
BeginsHole below at [] = ⊥
BeginsHole below at (s ∷ ss) = ((s.from ≡ at) × (s.to ≤ below)) ⊎ BeginsHole below at ss

-- Some holes begin at a place.
pub record HasHoles (bytes : List ℕ) (high at : ℕ) : Type 0 where
  pub spans : List Span
  pub chain : IsChain bytes 0 high at spans

-- A cursor is one of the holes, or names none.
abbrev pub HasCursor : List ℕ → ℕ → ℕ → ℕ → Type 0
HasCursor bytes high first cursor = (ss : List Span) → IsChain bytes 0 high first ss → cursor < no_hole
    → BeginsHole high cursor ss

-- One of the holes begins at a place and lies below another whole.
pub record IsBefore (bytes : List ℕ) (first below at : ℕ) : Type 0 where
  pub here : at < below
  pub whole : word_at bytes at ≤ below
  pub begins : (high : ℕ) (ss : List Span) → high < no_hole → IsChain bytes 0 high first ss → BeginsHole below at ss

-- Bytes change from a place up to another alone.
pub record ChangesWithin (from to : ℕ) (old new : List ℕ) : Type 0 where
  pub length_is : length new ≡ length old
  pub below : (i : ℕ) → i < from → slice_index new i ≡ slice_index old i
  pub above : (i : ℕ) → to ≤ i → slice_index new i ≡ slice_index old i

-- A place and the holes after it, if some bytes are left of a hole.
abbrev pub kept_hole : ℕ → ℕ → List Span → List Span
kept_hole from to ss = if nat_lt from to then record { from = from; to = to } ∷ ss else ss

-- What is left of some holes once a range is filled: the filled part of a hole is 0, and all else stays.
pub record Punched (a b : ℕ) (old : List ℕ) (ss : List Span) (low high at : ℕ) (new : List ℕ) : Type 0 where
  pub length_is : length new ≡ length old
  pub spans : List Span
  pub chain : IsChain new low high at spans
  pub holes : (i : ℕ) → in_hole spans i ≡ (in_hole ss i && not (is_within a b i))
  pub kept_bytes : (i : ℕ) → in_hole ss i ≡ false → slice_index new i ≡ slice_index old i
  pub zeros : (i : ℕ) → in_hole ss i ≡ true → is_within a b i ≡ true → slice_index new i ≡ 0

-- Some bytes of a range were filled: what is left once the rest is filled is what is left once all is.
abbrev pub Continues : ℕ → ℕ → List ℕ → ℕ → List ℕ → ℕ → Type 0
Continues a b old at mid first =
    (result : ℕ) (new : List ℕ) → ((low : ℕ) (ss : List Span) → IsChain mid low (length mid) first ss
    → Punched a b mid ss low (length mid) result new)
    → (low : ℕ) (ss : List Span) → IsChain old low (length old) at ss → Punched a b old ss low (length old) result new

-- Some holes with one more after them, which reaches from `high` up to the end.
pub record Appended (old : List ℕ) (ss : List Span) (low high at : ℕ) (new : List ℕ) : Type 0 where
  pub length_is : length new ≡ length old
  pub spans : List Span
  pub chain : IsChain new low (length old) at spans
  pub holes : (i : ℕ) → in_hole spans i ≡ (in_hole ss i || is_within high (length old) i)
  pub kept_bytes : (i : ℕ) → i < high → in_hole ss i ≡ false → slice_index new i ≡ slice_index old i
