-- The fields of an IPv4 header, by their places in its bytes (RFC 791, 3.1). Numbers are big-endian.
use Rattle.std.specs.Prelude.{ℕ, List, Bool, ◌*◌, ◌-◌, ◌/◌, ◌%◌, ◌==◌, ◌||◌, drop, slice_index, not}
use Rattle.cap_bytes.specs.Number.{number}
use Rattle.cap_bytes.specs.declared.numbers.Order.TheVariants.{Big}

-- the high four bits of byte 0
unfoldable pub version : List ℕ → ℕ
version bytes = slice_index bytes 0 / 16

-- the header's length in bytes: the low four bits of byte 0 count words of four bytes
unfoldable pub header_length : List ℕ → ℕ
header_length bytes = 4 * (slice_index bytes 0 % 16)

-- the type of service
unfoldable pub service : List ℕ → ℕ
service bytes = slice_index bytes 1

-- the length of header and data
unfoldable pub total_length : List ℕ → ℕ
total_length bytes = number Big 2 (drop 2 bytes)

unfoldable pub identification : List ℕ → ℕ
identification bytes = number Big 2 (drop 4 bytes)

-- the flag MF, more fragments: bit 2 of the 16 that begin at byte 6, counted from the highest
unfoldable pub more_fragments : List ℕ → Bool
more_fragments bytes = number Big 2 (drop 6 bytes) / 0x2000 % 2 == 1

-- where the data begins in its datagram, in bytes: the low 13 of those bits count blocks of 8
unfoldable pub offset : List ℕ → ℕ
offset bytes = 8 * (number Big 2 (drop 6 bytes) % 0x2000)

unfoldable pub time_to_live : List ℕ → ℕ
time_to_live bytes = slice_index bytes 8

unfoldable pub protocol : List ℕ → ℕ
protocol bytes = slice_index bytes 9

unfoldable pub source : List ℕ → ℕ
source bytes = number Big 4 (drop 12 bytes)

unfoldable pub destination : List ℕ → ℕ
destination bytes = number Big 4 (drop 16 bytes)

-- the length of the data
unfoldable pub data_length : List ℕ → ℕ
data_length bytes = total_length bytes - header_length bytes

-- a fragment has MF set or an offset that isn't 0 (RFC 791, 3.2)
unfoldable pub is_fragment : List ℕ → Bool
is_fragment bytes = more_fragments bytes || not (offset bytes == 0)
