-- The byte map of a group of fragments, which are listed with the latest first (RFC 791, 3.2).
use Rattle.std.specs.Prelude.{ℕ, zero, suc, List, [], ◌∷◌, Bool, true, false, Option, None, Some, ◌+◌, ◌-◌, ◌*◌, ◌/◌}
use Rattle.std.specs.Prelude.{◌==◌, ◌&&◌, ◌||◌, map, max, slice_index, if◌then◌else◌}
use Rattle.std.specs.List.{range_with_len}
use Rattle.std.specs.Option.{option_map_or}
use Rattle.cap_ip.specs.Header.{HeaderFields}
use Rattle.cap_join.specs.Holes.{is_within}
use Rattle.cap_join.specs.Fragments.{Piece, end_of}

-- a place lies in a fragment's data
abbrev pub holds : Piece → ℕ → Bool
holds p i = is_within p.start (end_of p) i

-- the block of 8 bytes of a number is covered: some fragment holds its first byte
abbrev pub is_covered : List Piece → ℕ → Bool
is_covered [] k = false
is_covered (p ∷ ps) k = holds p (8 * k) || is_covered ps k

-- the blocks below a number are covered
abbrev pub covers_below : List Piece → ℕ → Bool
covers_below ps zero = true
covers_below ps (suc n) = is_covered ps n && covers_below ps n

-- the length of the datagram's data: the end of the latest fragment after which none follows
abbrev pub total_of : List Piece → Option ℕ
total_of [] = None
total_of (p ∷ ps) = if p.more then total_of ps else Some (end_of p)

-- the datagram's header: that of the latest fragment that begins at 0
abbrev pub joined_header : List Piece → Option HeaderFields
joined_header [] = None
joined_header (p ∷ ps) = if p.start == 0 then Some p.header else joined_header ps

-- the byte at a place: that of the latest fragment that holds it, else 0
abbrev pub byte_at : List Piece → ℕ → ℕ
byte_at [] i = 0
byte_at (p ∷ ps) i = if holds p i then slice_index p.bytes (i - p.start) else byte_at ps i

-- how many blocks some bytes take
abbrev pub block_count : ℕ → ℕ
block_count n = (n + 7) / 8

-- the length is known, and each block below it is covered
unfoldable pub completes : List Piece → Bool
completes ps = option_map_or (λ n. covers_below ps (block_count n)) (total_of ps) false

-- the bytes below the length, if it is known
unfoldable pub joined_data : List Piece → List ℕ
joined_data ps = option_map_or (λ n. map (byte_at ps) (range_with_len 0 n)) (total_of ps) []

-- the greatest end of the fragments
abbrev pub greatest_end : List Piece → ℕ
greatest_end [] = 0
greatest_end (p ∷ ps) = max (end_of p) (greatest_end ps)

-- a number of bytes, rounded up to whole blocks
abbrev pub rounded : ℕ → ℕ
rounded n = 8 * block_count n
