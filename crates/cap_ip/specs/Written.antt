-- How the header of a whole datagram is written, without options (RFC 791, 3.1).
use Rattle.std.specs.Prelude.{ℕ, ◌+◌, List, [], ◌∷◌, ◌++◌}
use Rattle.cap_bytes.specs.Number.{bytes_of}
use Rattle.cap_bytes.specs.declared.numbers.Order.TheVariants.{Big}
use Rattle.cap_ip.specs.Checksum.{checked, checksum_of}
use Rattle.cap_ip.specs.Header.{HeaderFields}

-- What stands in front of its checksum, of a datagram with that many bytes of data: version 4 and five words, type of
-- service, total length, identification, no flags and no offset, time to live, protocol.
abbrev pub front_of : HeaderFields → ℕ → List ℕ
front_of header size =
    0x45 ∷ header.service ∷ (bytes_of Big 2 (20 + size)
    ++ (bytes_of Big 2 header.key.identification ++ (0 ∷ 0 ∷ header.time_to_live ∷ header.key.protocol ∷ [])))

-- and what comes after it: both addresses
abbrev pub back_of : HeaderFields → List ℕ
back_of header = bytes_of Big 4 header.key.source ++ bytes_of Big 4 header.key.destination

-- a header with that word in its checksum's place
unfoldable pub header_with : HeaderFields → ℕ → ℕ → List ℕ
header_with header size checksum = checked (front_of header size) checksum (back_of header)

-- the header of a datagram of that many bytes of data, with its checksum
unfoldable pub ipv4_header_bytes : HeaderFields → ℕ → List ℕ
ipv4_header_bytes header size = header_with header size (checksum_of (header_with header size 0))
