-- Numbers as the bytes that spell them. A list of bytes is a list of numbers below 256. A pcap file and a section of a
-- pcapng file each have one order (draft-ietf-opsawg-pcap, 4; draft-ietf-opsawg-pcapng, 3.6), IPv4 headers the highest
-- byte first (RFC 791, Appendix B).
use Rattle.std.specs.Prelude.{ℕ, ◌+◌, List, ◌++◌, take, drop}
use Rattle.byteorder.specs.Endian.{big_bytes, big_number, little_bytes, little_number}
use Rattle.cap_bytes.specs.declared.numbers.Order.{Order}
use Rattle.cap_bytes.specs.declared.numbers.Order.TheVariants.{Big, Little}

-- the number that the first n bytes spell in an order
unfoldable pub number : Order → ℕ → List ℕ → ℕ
number Big n bytes = big_number n bytes
number Little n bytes = little_number n bytes

-- the n bytes that spell a number in an order
unfoldable pub bytes_of : Order → ℕ → ℕ → List ℕ
bytes_of Big n x = big_bytes n x
bytes_of Little n x = little_bytes n x

-- some bytes, of which the n from a place on are those that spell a number
unfoldable pub with_number : Order → ℕ → ℕ → ℕ → List ℕ → List ℕ
with_number order n x place bytes = take place bytes ++ bytes_of order n x ++ drop (place + n) bytes
