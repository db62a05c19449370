-- The IPv6 packet that a frame carries, by its link type (LINKTYPE registry; RFC 2464, 3).
use Rattle.std.specs.Prelude.{ℕ, List, ◌==◌, ◌/◌, nat_lt, length, slice_index, Option, Some, None, ⊤}
use Rattle.std.specs.Prelude.{if◌then◌else◌, option_and_then}
use Rattle.cap_link.specs.Links.{announced_in, ethernet, linux_sll, linux_sll2}
use Rattle.cap_link.specs.Seen.{Announced, Carried}
use Rattle.cap_link.specs.declared.links.LinkHeader.{LinkHeader}

-- the bytes behind a type field of IPv6, 86DD
unfoldable pub ipv6_behind : Announced → Option (List ℕ)
ipv6_behind it = if it.kind == 0x86DD then Some it.bytes else None

-- the IPv6 packet of a frame that begins with such a link header
unfoldable pub ipv6_typed : LinkHeader → List ℕ → Option (List ℕ)
ipv6_typed header frame = option_and_then ipv6_behind (announced_in header frame)

-- no link header: the version of the packet stands in the high four bits of its first byte (RFC 8200, 3)
unfoldable pub ipv6_raw : List ℕ → Option (List ℕ)
ipv6_raw frame =
    if nat_lt (length frame) 1 then None else (if slice_index frame 0 / 16 == 6 then Some frame else None)

-- 1 ETHERNET, 113 LINUX_SLL, 276 LINUX_SLL2; 101 RAW, an IPv4 or IPv6 packet; 229 IPV6, an IPv6 packet
unfoldable pub ipv6_of : ℕ → List ℕ → Option (List ℕ)
ipv6_of link frame =
    if link == 1 then ipv6_typed ethernet frame
    else (if link == 101 then ipv6_raw frame
    else (if link == 113 then ipv6_typed linux_sll frame
    else (if link == 276 then ipv6_typed linux_sll2 frame
    else (if link == 229 then Some frame else None))))

-- a frame of another network than IPv4, or of a link type that isn't looked into for IPv4
abbrev pub IsUnread : Carried → Type 0
IsUnread (Carried.ipv4 bytes) = ⊥
IsUnread Carried.other_link = ⊤
IsUnread Carried.not_ipv4 = ⊤
IsUnread Carried.short = ⊥
IsUnread Carried.cut = ⊥
