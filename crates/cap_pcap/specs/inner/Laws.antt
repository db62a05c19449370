-- What is true of the grammar of pcap files, whatever reads or writes them.
use Rattle.std.specs.Prelude.{◌≡◌, ◌+◌, ◌*◌, ◌^◌, ◌≤◌, ◌<◌, ℕ, List, ◌∷◌, ◌++◌, length, slice_index, Some, None}
use Rattle.cap_bytes.specs.declared.numbers.Order.{Order}
use Rattle.cap_bytes.specs.Items.{given}
use Rattle.cap_bytes.specs.declared.faults.Tail.{Tail}
use Rattle.cap_time.specs.Unit.{in_second}
use Rattle.cap_time.specs.declared.stamps.Unit.{Unit as Fraction}
use Rattle.cap_pcap.specs.Grammar.{SpellsHeader, Packet, SpellsRecord, header_bytes, record_bytes}
use Rattle.cap_pcap.specs.Split.{pcap_header_fault, header_at, record_stop_at, record_items_from, pcap_file_items}
use Rattle.cap_pcap.specs.Split.{SplitsRecords, place_behind_records}
use Rattle.cap_pcap.specs.Split.{record_of, record_items_with}
use Rattle.cap_pcap.specs.declared.headers.PcapHeader.{PcapHeader}
use Rattle.cap_bytes.specs.declared.stops.Stop.{Stop}

-- No record's spelling is a proper prefix of another's, and no bytes spell two packets.
abbrev pub OneRecord : Type 0
OneRecord =
    (order : Order) (unit : Fraction) (p q : Packet) (a b x y : List ℕ)
    → SpellsRecord order unit p a → SpellsRecord order unit q b → a ++ x ≡ b ++ y
    → (a ≡ b) × (p ≡ q) × (x ≡ y)

-- The bytes after a header split in one way,
abbrev pub OneRecordSplit : Type 0
OneRecordSplit =
    (order : Order) (unit : Fraction) (offset : ℕ) (bytes : List ℕ) (ps qs : List Packet) (r s : List ℕ)
    → SplitsRecords order unit offset bytes ps r → SplitsRecords order unit offset bytes qs s → (ps ≡ qs) × (r ≡ s)

-- and they do split.
abbrev pub EveryRecordSplit : Type 0
EveryRecordSplit =
    (order : Order) (unit : Fraction) (offset : ℕ) (bytes : List ℕ)
    → (packets : List Packet) × (rest : List ℕ) × SplitsRecords order unit offset bytes packets rest

-- The items are those of the split: its packets, and what the rest is.
abbrev pub RecordSplitItems : Type 0
RecordSplitItems =
    (header : PcapHeader) (tail : Tail) (file offset : ℕ) (bytes : List ℕ) (packets : List Packet) (rest : List ℕ)
    → SplitsRecords header.order header.unit offset bytes packets rest
    → (stop : Stop) × (record_stop_at header.order tail file (place_behind_records offset packets) rest ≡ Some stop)
    × (record_items_from header tail file offset bytes ≡ record_items_with offset packets stop)

-- Bytes that spell a header are read as that header, whatever follows them.
abbrev pub HeaderRead : Type 0
HeaderRead =
    (header : PcapHeader) (bytes rest : List ℕ) → ((i : ℕ) → slice_index bytes i < 256) → SpellsHeader header bytes
    → (pcap_header_fault 0 (bytes ++ rest) ≡ None) × (header_at (bytes ++ rest) ≡ header)

-- Bytes that spell a packet are read as that packet, whatever follows them.
abbrev pub RecordRead : Type 0
RecordRead =
    (header : PcapHeader) (tail : Tail) (file offset : ℕ) (packet : Packet) (bytes rest : List ℕ)
    → SpellsRecord header.order header.unit packet bytes → offset + length bytes ≤ 2 ^ 40
    → record_items_from header tail file offset (bytes ++ rest)
    ≡ given (record_of offset packet) packet.frame ∷ record_items_from header tail file (offset + length bytes) rest

-- What is written for a header spells it, and is read again as it, whatever follows.
abbrev pub HeaderAgain : Type 0
HeaderAgain =
    (header : PcapHeader) → header.snaplen < 2 ^ 32 → header.link < 2 ^ 16
    → SpellsHeader header (header_bytes header)
    × ((tail : Tail) (file : ℕ) (rest : List ℕ)
    → pcap_file_items tail file 0 (header_bytes header ++ rest) ≡ record_items_from header tail file 24 rest)

-- What is written for a packet spells it. So it is read again as it, whatever follows.
abbrev pub RecordAgain : Type 0
RecordAgain =
    (order : Order) (unit : Fraction) (seconds fraction original : ℕ) (frame : List ℕ)
    → seconds < 2 ^ 32 → fraction < 2 ^ 32 → original < 2 ^ 32 → length frame ≤ 262144
    → SpellsRecord order unit
    (record { units = seconds * in_second unit + fraction; original = original; frame = frame })
    (record_bytes order seconds fraction original frame)
