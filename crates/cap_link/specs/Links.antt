-- The network part of a frame, by its link type (LINKTYPE registry; IEEE 802.3).
use Rattle.std.specs.Prelude.{ℕ, List, Bool, true, false, ◌==◌, ◌/◌, nat_le, nat_lt, length, drop, slice_index}
use Rattle.std.specs.Prelude.{Option, Some, None, if◌then◌else◌, option_and_then}
use Rattle.cap_bytes.specs.Number.{number}
use Rattle.cap_bytes.specs.declared.numbers.Order.TheVariants.{Big}
use Rattle.cap_link.specs.Seen.{Announced, Carried}
use Rattle.cap_link.specs.Tags.{announced, carried, ended_in_link, other_of_kind}
use Rattle.cap_link.specs.declared.links.LinkHeader.{LinkHeader}
use Rattle.cap_link.specs.declared.networks.OtherNetwork.{OtherNetwork}
use Rattle.cap_link.specs.declared.networks.OtherNetwork.TheVariants.{Ipv6, Other}

-- the link headers that have a type field: ETHERNET's, of destination 6, source 6, type 2
abbrev pub ethernet : LinkHeader
ethernet = record { size = 14; place = 12 }

-- LINUX_SLL's, of packet type 2, ARPHRD type 2, address length 2, address 8, protocol 2
abbrev pub linux_sll : LinkHeader
linux_sll = record { size = 16; place = 14 }

-- LINUX_SLL2's, of protocol 2, reserved 2, interface 4, ARPHRD type 2, packet type 1, address length 1, address 8
abbrev pub linux_sll2 : LinkHeader
linux_sll2 = record { size = 20; place = 0 }

-- what a frame's link header and the tags behind it announce; nothing if the frame ends inside them
unfoldable pub announced_in : LinkHeader → List ℕ → Option Announced
announced_in header frame =
    if nat_lt (length frame) header.size then None
    else announced (number Big 2 (drop header.place frame)) (drop header.size frame)

-- what a frame carries that begins with such a link header
unfoldable pub typed : Bool → LinkHeader → List ℕ → Carried
typed whole header frame = carried whole (announced_in header frame)

-- no link header: the version of the packet stands in the high four bits of its first byte (RFC 791, 3.1)
unfoldable pub raw : Bool → List ℕ → Carried
raw whole frame =
    if nat_lt (length frame) 1
    then ended_in_link whole
    else (if slice_index frame 0 / 16 == 4 then Carried.ipv4 frame else Carried.not_ipv4)

-- the frame was captured whole: also if more was captured than its original length
abbrev pub is_captured_whole : List ℕ → ℕ → Bool
is_captured_whole frame original = nat_le original (length frame)

-- 1 ETHERNET, 113 LINUX_SLL, 276 LINUX_SLL2; 101 RAW, an IPv4 or IPv6 packet; 228 IPV4, an IPv4 packet.
unfoldable pub network_of : ℕ → List ℕ → ℕ → Carried
network_of link frame original =
    let whole = is_captured_whole frame original in
    if link == 1 then typed whole ethernet frame
    else (if link == 101 then raw whole frame
    else (if link == 113 then typed whole linux_sll frame
    else (if link == 228 then Carried.ipv4 frame
    else (if link == 276 then typed whole linux_sll2 frame
    else Carried.other_link))))

-- the network other than IPv4 of a frame that begins with such a link header
unfoldable pub other_typed : LinkHeader → List ℕ → Option OtherNetwork
other_typed header frame = option_and_then (λ it. other_of_kind it.kind) (announced_in header frame)

-- the network other than IPv4 of a frame without a link header: IPv6 of version 6 (RFC 8200, 3)
unfoldable pub other_raw : List ℕ → Option OtherNetwork
other_raw frame =
    if nat_lt (length frame) 1 then None
    else (if slice_index frame 0 / 16 == 4 then None
    else (if slice_index frame 0 / 16 == 6 then Some Ipv6 else Some Other))

-- The network other than IPv4 that a frame's link header and tags lead to; none if they lead to IPv4, if the frame ends
-- inside them, or if its link type isn't one of the five.
unfoldable pub other_network_of : ℕ → List ℕ → Option OtherNetwork
other_network_of link frame =
    if link == 1 then other_typed ethernet frame
    else (if link == 101 then other_raw frame
    else (if link == 113 then other_typed linux_sll frame
    else (if link == 276 then other_typed linux_sll2 frame
    else None)))

-- a frame is whole, and of a network other than IPv4
abbrev pub is_not_ipv4 : Carried → Bool
is_not_ipv4 (Carried.ipv4 bytes) = false
is_not_ipv4 Carried.other_link = false
is_not_ipv4 Carried.not_ipv4 = true
is_not_ipv4 Carried.short = false
is_not_ipv4 Carried.cut = false
