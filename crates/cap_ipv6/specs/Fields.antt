-- The fields of an IPv6 header, by their places in its 40 bytes (RFC 8200, 3). Numbers are big-endian.
use Rattle.std.specs.Prelude.{ℕ, List, ◌/◌, drop, slice_index}
use Rattle.cap_bytes.specs.Number.{number}
use Rattle.cap_bytes.specs.declared.numbers.Order.TheVariants.{Big}

-- the high four bits of byte 0
unfoldable pub version : List ℕ → ℕ
version bytes = slice_index bytes 0 / 16

-- the length of what follows the header, extension headers among it
unfoldable pub payload_length : List ℕ → ℕ
payload_length bytes = number Big 2 (drop 4 bytes)

-- what follows the header: a kind of extension header, or the protocol of the data
unfoldable pub next_header : List ℕ → ℕ
next_header bytes = slice_index bytes 6

unfoldable pub source : List ℕ → ℕ
source bytes = number Big 16 (drop 8 bytes)

unfoldable pub destination : List ℕ → ℕ
destination bytes = number Big 16 (drop 24 bytes)
