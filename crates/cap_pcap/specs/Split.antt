-- How a file splits into its header, its records and a rest, and what the rest is refused by.
use Rattle.std.specs.Prelude.{◌≡◌, ◌==◌, ◌||◌, ◌&&◌, not, ℕ, ◌+◌, ◌*◌, ◌%◌, ◌^◌, ◌≤◌, nat_lt, if◌then◌else◌, Bool, true}
use Rattle.std.specs.Prelude.{List, [], ◌∷◌, length, take, drop, Option, Some, None}
use Rattle.cap_bytes.specs.Number.{number}
use Rattle.cap_bytes.specs.declared.faults.Rule.{Rule}
use Rattle.cap_bytes.specs.declared.faults.Rule.TheVariants.{Magic, Version, Cut, PacketLong, FileLimit}
use Rattle.cap_bytes.specs.declared.faults.Tail.{Tail}
use Rattle.cap_bytes.specs.Items.{stop_where, PieceItem, given, stopped, PieceFormat, piece_items}
use Rattle.cap_bytes.specs.declared.numbers.Order.{Order}
use Rattle.cap_bytes.specs.declared.numbers.Order.TheVariants.{Big, Little}
use Rattle.cap_bytes.specs.declared.stops.Stop.{Stop}
use Rattle.cap_bytes.specs.declared.stops.Stop.TheVariants as stops
use Rattle.cap_time.specs.Unit.{in_second}
use Rattle.cap_time.specs.declared.stamps.Unit.{Unit as Fraction}
use Rattle.cap_time.specs.declared.stamps.Unit.TheVariants.{Micro, Nano}
use Rattle.cap_pcap.specs.Grammar.{magic_of, Packet, packet_size, SpellsRecord}
use Rattle.cap_pcap.specs.declared.headers.PcapHeader.{PcapHeader}
use Rattle.cap_pcap.specs.declared.records.Record.{Record}

-- Whether a file begins with one of the magics in that order.
abbrev pub is_magic : Order → List ℕ → Bool
is_magic order bytes = (number order 4 bytes == magic_of Micro) || (number order 4 bytes == magic_of Nano)

-- the order in which the magic reads, and the unit that it tells
abbrev pub pcap_order_at : List ℕ → Order
pcap_order_at bytes = if is_magic Big bytes then Big else Little

abbrev pub pcap_unit_at : Order → List ℕ → Fraction
pcap_unit_at order bytes = if number order 4 bytes == magic_of Micro then Micro else Nano

-- whether the version is 2.4
abbrev pub is_pcap_version : Order → List ℕ → Bool
is_pcap_version order bytes = (number order 2 (drop 4 bytes) == 2) && (number order 2 (drop 6 bytes) == 4)

-- The first condition that the header of a file meets which is refused, if one is. Of a file read from its
-- first byte on, which has offset 0, the last never comes.
unfoldable pub pcap_header_fault : ℕ → List ℕ → Option Rule
pcap_header_fault offset bytes =
    if nat_lt (length bytes) 4 then Some Cut else
    if not (is_magic Big bytes || is_magic Little bytes) then Some Magic else
    if nat_lt (length bytes) 24 then Some Cut else
    if not (is_pcap_version (pcap_order_at bytes) bytes) then Some Version else
    if nat_lt (2 ^ 40) (offset + 24) then Some FileLimit else None

-- the header of a file that isn't refused
unfoldable pub header_at : List ℕ → PcapHeader
header_at bytes =
    let order = pcap_order_at bytes in
    record {
      order = order;
      unit = pcap_unit_at order bytes;
      snaplen = number order 4 (drop 16 bytes);
      link = number order 4 (drop 20 bytes) % 65536;
    }

-- how many bytes were captured of the packet at the front
abbrev pub captured_at : Order → List ℕ → ℕ
captured_at order bytes = number order 4 (drop 8 bytes)

-- The first condition that some bytes, which begin at `offset`, meet in a record's place, if one does.
unfoldable pub record_fault : Order → ℕ → List ℕ → Option Rule
record_fault order offset bytes =
    if nat_lt (length bytes) 16 then Some Cut else
    if nat_lt 262144 (captured_at order bytes) then Some PacketLong else
    if nat_lt (2 ^ 40) (offset + (16 + captured_at order bytes)) then Some FileLimit else
    if nat_lt (length bytes) (16 + captured_at order bytes) then Some Cut else None

-- the record at the front of some bytes that meet none of them, and its captured bytes
unfoldable pub record_at : Order → Fraction → ℕ → List ℕ → Record
record_at order unit offset bytes =
    record {
      offset = offset;
      units = number order 4 bytes * in_second unit + number order 4 (drop 4 bytes);
      captured = captured_at order bytes;
      original = number order 4 (drop 12 bytes);
    }

abbrev pub record_frame_at : Order → List ℕ → List ℕ
record_frame_at order bytes = take (captured_at order bytes) (drop 16 bytes)

-- what ends the records at some bytes, if anything does: none are left, or a rule is broken
abbrev pub record_stop_at : Order → Tail → ℕ → ℕ → List ℕ → Option Stop
record_stop_at order tail file offset bytes = stop_where true tail file offset bytes (record_fault order offset bytes)

-- how a file goes on after its header
abbrev pub records : PieceFormat PcapHeader Record
records =
    record {
      stop = λ header. record_stop_at header.order;
      piece = λ header. record_at header.order header.unit;
      lent = λ header. record_frame_at header.order;
      size = λ header bytes. 16 + captured_at header.order bytes;
      next = λ header bytes. header;
    }

-- the items of the bytes after a header, which begin at `offset`
abbrev pub record_items_from : PcapHeader → Tail → ℕ → ℕ → List ℕ → List (PieceItem Record)
record_items_from header tail file offset bytes = piece_items records header tail file offset bytes

-- the items of a file whose header is refused, or isn't
abbrev pub refused_or : Option Rule → ℕ → ℕ → List (PieceItem Record) → List (PieceItem Record)
refused_or (Some rule) file offset items = stopped
    (stops.Refused (record { file = file; offset = offset; rule = rule })) ∷ []
refused_or None file offset items = items

-- the items of a file whose bytes begin at `offset`: 0 for a whole file
unfoldable pub pcap_file_items : Tail → ℕ → ℕ → List ℕ → List (PieceItem Record)
pcap_file_items tail file offset bytes =
    refused_or (pcap_header_fault offset bytes) file offset
    (record_items_from (header_at bytes) tail file (offset + 24) (drop 24 bytes))

-- No bytes at the front of a rest spell a packet that ends by byte 2^40.
abbrev pub HasNoRecord : Order → Fraction → ℕ → List ℕ → Type 0
HasNoRecord order unit offset rest =
    (packet : Packet) → SpellsRecord order unit packet (take (packet_size packet) rest)
    → offset + packet_size packet ≤ 2 ^ 40 → ⊥

-- Some bytes, which begin at `offset`, are the spellings of these packets one after the other, and then a
-- rest that no record begins.
abbrev pub SplitsRecords : Order → Fraction → ℕ → List ℕ → List Packet → List ℕ → Type 0
SplitsRecords order unit offset bytes [] rest = (bytes ≡ rest) × HasNoRecord order unit offset rest
SplitsRecords order unit offset bytes (packet ∷ packets) rest =
    SpellsRecord order unit packet (take (packet_size packet) bytes)
    × (offset + packet_size packet ≤ 2 ^ 40)
    × SplitsRecords order unit (offset + packet_size packet) (drop (packet_size packet) bytes) packets rest

-- the place after some packets
abbrev pub place_behind_records : ℕ → List Packet → ℕ
place_behind_records offset [] = offset
place_behind_records offset (packet ∷ packets) = place_behind_records (offset + packet_size packet) packets

-- the record that gives a packet
abbrev pub record_of : ℕ → Packet → Record
record_of offset packet =
    record { offset = offset; units = packet.units; captured = length packet.frame; original = packet.original }

-- the items of some packets, and what ends them
abbrev pub record_items_with : ℕ → List Packet → Stop → List (PieceItem Record)
record_items_with offset [] stop = stopped stop ∷ []
record_items_with offset (packet ∷ packets) stop =
    given (record_of offset packet) packet.frame ∷ record_items_with (offset + packet_size packet) packets stop
