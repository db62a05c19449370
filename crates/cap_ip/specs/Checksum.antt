-- The checksum of an IPv4 header (RFC 791, 3.1; RFC 1071, 1).
use Rattle.std.specs.Prelude.{◌≡◌, ℕ, List, [], ◌∷◌, ◌++◌, ◌+◌, ◌-◌, ◌/◌, ◌%◌, ◌<◌, All, length}
use Rattle.cap_bytes.specs.Number.{number}
use Rattle.cap_bytes.specs.declared.numbers.Order.TheVariants.{Big}

-- the 16 bit words that an even number of bytes spell, one after the other
unfoldable pub words : List ℕ → List ℕ
words (a ∷ b ∷ rest) = number Big 2 (a ∷ b ∷ []) ∷ words rest
words bytes = []

-- the ones' complement sum of two words: a carry out of the highest bit is added at the lowest
unfoldable pub ones_add : ℕ → ℕ → ℕ
ones_add a b = (a + b) % 0x10000 + (a + b) / 0x10000

-- the ones' complement sum of words
unfoldable pub ones_sum : List ℕ → ℕ
ones_sum [] = 0
ones_sum (w ∷ ws) = ones_add w (ones_sum ws)

-- the ones' complement of the ones' complement sum of a header's words, as its checksum stands there
unfoldable pub checksum_of : List ℕ → ℕ
checksum_of header = 0xFFFF - ones_sum (words header)

-- a header with this checksum at its place, bytes 10 and 11
unfoldable pub checked : List ℕ → ℕ → List ℕ → List ℕ
checked front checksum back = front ++ (checksum / 256) ∷ (checksum % 256) ∷ back

-- a header whose checksum was taken over it with 0 in its place sums to all ones
abbrev pub SumsToOnes : List ℕ → List ℕ → Type 0
SumsToOnes front back = ones_sum (words (checked front (checksum_of (checked front 0 back)) back)) ≡ 0xFFFF

-- this holds of every header of 20 bytes
abbrev pub ChecksumLaw : Type 0
ChecksumLaw =
    (front back : List ℕ) → length front ≡ 10 → length back ≡ 8 → All (λ b. b < 256) front → All (λ b. b < 256) back
    → SumsToOnes front back
