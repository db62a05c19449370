-- IPv6 addresses as they are printed.
use Rattle.std.specs.Prelude.{ℕ, List}
use Rattle.std.specs.Int.{to_be_bytes, w128}
use Rattle.std.specs.Net.Addr.{segments_of}
use Rattle.std.specs.Net.Text.{hex_groups_text}

-- the eight groups of 16 bits of an address, the highest first (RFC 4291, 2.2)
unfoldable pub groups_of : ℕ → List ℕ
groups_of address = segments_of (to_be_bytes w128 address)

-- These in lower case hex without leading zeros, a colon between each, and `::` in place of the longest run of two or
-- more groups of zero, the first of those as long (RFC 5952, 4).
unfoldable pub ipv6_text : ℕ → List ℕ
ipv6_text address = hex_groups_text (groups_of address)
