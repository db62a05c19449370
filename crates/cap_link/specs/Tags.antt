-- Type fields and the tags that may follow them.
use Rattle.std.specs.Prelude.{ℕ, List, [], ◌∷◌, Bool, ◌||◌, ◌==◌, Option, Some, None, if◌then◌else◌}
use Rattle.cap_bytes.specs.Number.{number}
use Rattle.cap_bytes.specs.declared.numbers.Order.TheVariants.{Big}
use Rattle.cap_link.specs.Seen.{Announced, Carried}
use Rattle.cap_link.specs.declared.networks.OtherNetwork.{OtherNetwork}
use Rattle.cap_link.specs.declared.networks.OtherNetwork.TheVariants.{Ipv6, Arp, Other}

-- a type field that says that a tag follows: a C-VLAN tag or an S-VLAN tag (IEEE 802.1Q, 9.5)
unfoldable pub is_tag : ℕ → Bool
is_tag kind = (kind == 0x8100) || (kind == 0x88A8)

-- The first type that is no tag's, of a type field and those of the tags after it, and the bytes behind it; none if the
-- bytes end inside a tag. After a tag's type stand two bytes of the tag's data and then the next type (IEEE 802.1Q,
-- 9.3).
unfoldable pub announced : ℕ → List ℕ → Option Announced
announced kind (a ∷ b ∷ c ∷ d ∷ rest) =
    if is_tag kind then announced (number Big 2 (c ∷ d ∷ [])) rest
    else Some (record { kind = kind; bytes = a ∷ b ∷ c ∷ d ∷ rest })
announced kind bytes = if is_tag kind then None else Some (record { kind = kind; bytes = bytes })

-- what a frame carries that ends inside its link header or a tag
unfoldable pub ended_in_link : Bool → Carried
ended_in_link whole = if whole then Carried.short else Carried.cut

-- what the bytes are after a type field that announces no tag: IPv4 after 0800 (RFC 894). A value below
-- 0600 is a length (IEEE 802.3, 3.2.6).
unfoldable pub payload : ℕ → List ℕ → Carried
payload kind bytes = if kind == 0x0800 then Carried.ipv4 bytes else Carried.not_ipv4

-- what a frame carries whose link header and tags announce that; they announce nothing if it ends inside them
unfoldable pub carried : Bool → Option Announced → Carried
carried whole None = ended_in_link whole
carried whole (Some it) = payload it.kind it.bytes

-- the network of a type field that is neither a tag's nor that of IPv4: IPv6 of 86DD (RFC 2464, 3), ARP of 0806
-- (RFC 826), and another of any other type or length
unfoldable pub other_of_kind : ℕ → Option OtherNetwork
other_of_kind kind =
    if kind == 0x0800 then None
    else (if kind == 0x86DD then Some Ipv6 else (if kind == 0x0806 then Some Arp else Some Other))
