-- Which bytes spell the header and the records of a pcap file, and which bytes are written for them.
use Rattle.std.specs.Prelude.{◌≡◌, ℕ, ◌+◌, ◌*◌, ◌%◌, ◌≤◌, List, ◌++◌, length, drop}
use Rattle.cap_bytes.specs.Number.{number, bytes_of}
use Rattle.cap_bytes.specs.declared.numbers.Order.{Order}
use Rattle.cap_time.specs.Unit.{in_second}
use Rattle.cap_time.specs.declared.stamps.Unit.{Unit as Fraction}
use Rattle.cap_time.specs.declared.stamps.Unit.TheVariants.{Micro, Nano}
use Rattle.cap_pcap.specs.declared.headers.PcapHeader.{PcapHeader}

-- What a file begins with, as it reads in the file's order. draft-ietf-opsawg-pcap, 4.
abbrev pub magic_of : Fraction → ℕ
magic_of Micro = 0xA1B2C3D4
magic_of Nano = 0xA1B23C4D

-- The bytes spell the header of a file. The 8 reserved bytes from place 8 on and the high 16 bits of the
-- link word are free. draft-ietf-opsawg-pcap, 4.
pub record SpellsHeader (header : PcapHeader) (bytes : List ℕ) : Type 0 where
  pub size : length bytes ≡ 24
  pub magic : number header.order 4 bytes ≡ magic_of header.unit
  pub major : number header.order 2 (drop 4 bytes) ≡ 2
  pub minor : number header.order 2 (drop 6 bytes) ≡ 4
  pub snaplen : header.snaplen ≡ number header.order 4 (drop 16 bytes)
  pub link : header.link ≡ number header.order 4 (drop 20 bytes) % 65536

-- A packet as a record gives it: when it was captured, in units since 1970, how long it was, and the
-- bytes that were captured of it.
pub record Packet : Type 0 where
  pub units : ℕ
  pub original : ℕ
  pub frame : List ℕ

-- The bytes spell a packet, in an order and with that fraction of a second. A fraction of a second or
-- more carries. draft-ietf-opsawg-pcap, 5.
pub record SpellsRecord (order : Order) (unit : Fraction) (packet : Packet) (bytes : List ℕ) : Type 0 where
  pub size : 16 ≤ length bytes
  pub units : packet.units ≡ number order 4 bytes * in_second unit + number order 4 (drop 4 bytes)
  pub captured : number order 4 (drop 8 bytes) ≡ length packet.frame
  pub original : packet.original ≡ number order 4 (drop 12 bytes)
  pub frame : packet.frame ≡ drop 16 bytes
  pub limit : length packet.frame ≤ 262144

-- how many bytes spell a packet
abbrev pub packet_size : Packet → ℕ
packet_size packet = 16 + length packet.frame

-- what is written for a header
abbrev pub header_bytes : PcapHeader → List ℕ
header_bytes header =
    bytes_of header.order 4 (magic_of header.unit) ++ bytes_of header.order 2 2 ++ bytes_of header.order 2 4
    ++ bytes_of header.order 4 0 ++ bytes_of header.order 4 0
    ++ bytes_of header.order 4 header.snaplen ++ bytes_of header.order 4 header.link

-- the four numbers that are written in front of the captured bytes
abbrev pub head_bytes : Order → ℕ → ℕ → ℕ → ℕ → List ℕ
head_bytes order seconds fraction captured original =
    bytes_of order 4 seconds ++ bytes_of order 4 fraction ++ bytes_of order 4 captured ++ bytes_of order 4 original

-- what is written for a packet
abbrev pub record_bytes : Order → ℕ → ℕ → ℕ → List ℕ → List ℕ
record_bytes order seconds fraction original frame =
    head_bytes order seconds fraction (length frame) original ++ frame
