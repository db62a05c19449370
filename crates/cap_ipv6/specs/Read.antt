-- How an IPv6 packet is read from its bytes (RFC 8200, 3).
use Rattle.std.specs.Prelude.{ℕ, List, Bool, ◌+◌, ◌≤◌, ◌==◌, ◌&&◌, length, take, drop, nat_lt, not, ⊤, if◌then◌else◌}
use Rattle.cap_ipv6.specs.Chain.{Led, Place, led}
use Rattle.cap_ipv6.specs.Fields.{destination, next_header, payload_length, source, version}
use Rattle.cap_ip.specs.declared.reasons.Reason.{Reason}
use Rattle.cap_ip.specs.declared.reasons.Reason.TheVariants as reason
use Rattle.cap_ipv6.specs.declared.packets.Ipv6Fragment.{Ipv6Fragment}
use Rattle.cap_ipv6.specs.declared.packets.Ipv6Header.{Ipv6Header}

-- what a packet is: a whole datagram with the captured part of its data, a fragment of one, or bad or cut for a reason
pub data Reading : Type 0 where
  datagram : Ipv6Header → List ℕ → Reading
  fragment : Ipv6Fragment → Reading
  bad : Reason → Reading
  cut : Reason → Reading

-- the captured part of the payload
unfoldable pub payload_of : List ℕ → List ℕ
payload_of bytes = take (payload_length bytes) (drop 40 bytes)

-- the first place among the extension headers
unfoldable pub first_place : List ℕ → Place
first_place bytes =
    record { number = next_header bytes; left = payload_length bytes; captured = payload_of bytes }

-- what a packet is that ends inside its header
unfoldable pub ended_in_header : Bool → Reading
ended_in_header whole = if whole then Reading.bad reason.HeaderShort else Reading.cut reason.HeaderShort

-- the packet was captured whole, and is shorter than it says
unfoldable pub is_overstated : List ℕ → Bool → Bool
is_overstated bytes whole = whole && nat_lt (length bytes) (40 + payload_length bytes)

-- what a packet is whose extension headers lead there
unfoldable pub packet_of : List ℕ → Led → Reading
packet_of bytes (Led.data_of protocol len captured) =
    Reading.datagram
    (record { source = source bytes; destination = destination bytes; protocol = protocol; data_length = len })
    captured
packet_of bytes (Led.fragment f) = Reading.fragment f
packet_of bytes (Led.bad why) = Reading.bad why
packet_of bytes (Led.cut why) = Reading.cut why

-- data within the longest payload
abbrev pub IsShort : Led → Type 0
IsShort (Led.data_of protocol len captured) = len ≤ 65535
IsShort (Led.fragment f) = ⊤
IsShort (Led.bad why) = ⊤
IsShort (Led.cut why) = ⊤

-- the first of four steps that holds
unfoldable pub read_of : List ℕ → Bool → Reading
read_of bytes whole =
    if nat_lt (length bytes) 40 then ended_in_header whole  -- 1
    else (if not (version bytes == 6) then Reading.bad reason.Version  -- 2
    else (if is_overstated bytes whole then Reading.bad reason.BeyondFrame  -- 3
    else packet_of bytes (led (first_place bytes))))  -- 4
