-- What holds of the texts of IPv6 addresses.
use Rattle.std.specs.Prelude.{◌≡◌, ℕ, List, [], Some, ◌<◌, ◌^◌}
use Rattle.std.specs.Net.Grammar.{IsColonHex}
use Rattle.std.specs.Net.Reader.{read_ipv6}
use Rattle.cap_print.specs.Addresses.{groups_of, ipv6_text}

-- The text of an address is read as its groups, and nothing is left of it. A text that spells the groups of two
-- addresses (RFC 4291, 2.2) spells one address.
pub record AddressLaw : Type 0 where
  pub read_back : (a : ℕ) → read_ipv6 (ipv6_text a) ≡ Some (groups_of a, [])
  pub names_one : (text : List ℕ) (a b : ℕ) → a < 2 ^ 128 → b < 2 ^ 128 → IsColonHex text (groups_of a)
      → IsColonHex text (groups_of b) → a ≡ b
  pub spells : (a : ℕ) → IsColonHex (ipv6_text a) (groups_of a)
