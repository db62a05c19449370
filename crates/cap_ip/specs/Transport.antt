-- The ports of a datagram's data, of which a part was captured. Numbers are big-endian.
use Rattle.std.specs.Prelude.{ℕ, List, ◌*◌, ◌/◌, ◌==◌, ◌||◌, length, drop, slice_index, nat_lt, if◌then◌else◌}
use Rattle.cap_bytes.specs.Number.{number}
use Rattle.cap_bytes.specs.declared.numbers.Order.TheVariants.{Big}
use Rattle.cap_ip.specs.declared.transports.Transport.{Transport}
use Rattle.cap_ip.specs.declared.transports.Transport.TheVariants.{Ports, NoPorts, Bad, Cut}

-- both headers begin with the source port and the destination port
unfoldable pub ports_of : List ℕ → Transport
ports_of captured = Ports (number Big 2 captured) (number Big 2 (drop 2 captured))

-- the length of UDP header and data, in bytes 4 and 5
unfoldable pub udp_length : List ℕ → ℕ
udp_length captured = number Big 2 (drop 4 captured)

-- UDP (RFC 768): a header of 8 bytes, whose length is that of header and data
unfoldable pub udp_of : List ℕ → ℕ → Transport
udp_of captured size =
    if nat_lt size 8 then Bad
    else (if nat_lt (length captured) 8 then Cut
    else (if nat_lt (udp_length captured) 8 || nat_lt size (udp_length captured) then Bad
    else ports_of captured))

-- the length of the TCP header: the data offset, the high four bits of byte 12, counts words of four bytes
unfoldable pub tcp_header_length : List ℕ → ℕ
tcp_header_length captured = 4 * (slice_index captured 12 / 16)

-- TCP (RFC 9293, 3.1): a header of at least 20 bytes, which ends within the data
unfoldable pub tcp_of : List ℕ → ℕ → Transport
tcp_of captured size =
    if nat_lt size 20 then Bad
    else (if nat_lt (length captured) 20 then Cut
    else (if nat_lt (tcp_header_length captured) 20 || nat_lt size (tcp_header_length captured) then Bad
    else ports_of captured))

-- by the protocol's number (IANA): 17 UDP, 6 TCP
unfoldable pub transport_of : ℕ → List ℕ → ℕ → Transport
transport_of protocol captured size =
    if protocol == 17 then udp_of captured size
    else (if protocol == 6 then tcp_of captured size
    else NoPorts)
