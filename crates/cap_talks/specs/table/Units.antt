-- Counted units: datagrams of IPv4 (RFC 791, 3.1) and IPv6 (RFC 8200, 3) with the ends between which they went (RFC
-- 768; RFC 9293, 3.1).
use Rattle.std.specs.Prelude.{ℕ, Option, Some, None}
use Rattle.std.specs.Ordering.{nat_cmp, ordering_then}
use Rattle.std.specs.Option.{option_cmp}
use Rattle.std.specs.declared.cmp.Ordering.{Ordering}
use Rattle.cap_ip.specs.declared.transports.Transport.{Transport}
use Rattle.cap_ip.specs.declared.transports.Transport.TheVariants.{Ports, NoPorts, Bad, Cut}
use Rattle.cap_talks.specs.declared.table.units.Address.{Address}
use Rattle.cap_talks.specs.declared.table.units.Address.TheVariants.{Ipv4, Ipv6}
use Rattle.cap_talks.specs.declared.table.units.Endpoint.{Endpoint}

-- the version of the network that an address is of
abbrev pub version_of : Address → ℕ
version_of (Ipv4 address) = 4
version_of (Ipv6 address) = 6

-- an address as a number
abbrev pub number_of : Address → ℕ
number_of (Ipv4 address) = address
number_of (Ipv6 address) = address

-- addresses of IPv4 come before those of IPv6, and those of one network compare as numbers
abbrev pub address_cmp : Address → Address → Ordering
address_cmp a b = ordering_then (nat_cmp (version_of a) (version_of b)) (nat_cmp (number_of a) (number_of b))

-- an end of an address, with a port if it has one
abbrev pub end_at : Address → Option ℕ → Endpoint
end_at address port = record { address = address; port = port }

-- the source and the destination of a datagram, by what its data says of its ports
abbrev pub ends_of : Address → Address → Transport → Option (Endpoint × Endpoint)
ends_of source destination (Ports from to) = Some (end_at source (Some from), end_at destination (Some to))
ends_of source destination NoPorts = Some (end_at source None, end_at destination None)
ends_of source destination Bad = None
ends_of source destination Cut = None

-- ends compare by address, and then by port
abbrev pub end_cmp : Endpoint → Endpoint → Ordering
end_cmp a b = ordering_then (address_cmp a.address b.address) (option_cmp nat_cmp a.port b.port)
