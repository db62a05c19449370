-- What is true of written files, whatever writes or reads them.
use Rattle.std.specs.Prelude.{◌≡◌, ℕ, ◌+◌, ◌/◌, ◌%◌, ◌^◌, ◌≤◌, ◌<◌, ◌==◌, FitsSigned, List, [], ◌∷◌, ◌++◌, length, map}
use Rattle.std.specs.Prelude.{slice_get, Option, Some, None, option_map, not, pos, int_lt, Bool, ⊤, false}
use Rattle.std.specs.Prelude.{if◌then◌else◌}
use Rattle.std.specs.Int.{w64}
use Rattle.cap_bytes.specs.declared.numbers.Order.{Order}
use Rattle.cap_bytes.specs.declared.faults.Refusal.{Refusal}
use Rattle.cap_bytes.specs.declared.faults.Rule.TheVariants.{TimeRange}
use Rattle.cap_bytes.specs.declared.faults.Tail.{Tail}
use Rattle.cap_blocks.specs.Split.{AreBytes}
use Rattle.cap_pcap.specs.Grammar.{Packet, header_bytes, record_bytes}
use Rattle.cap_pcap.specs.declared.headers.PcapHeader.{PcapHeader}
use Rattle.std.specs.List.{AllZip}
use Rattle.std.specs.declared.cmp.Ordering.TheVariants.{Equal}
use Rattle.cap_source.specs.Feed.{Item, packet, refused, refusal_of}
use Rattle.cap_source.specs.Items.{is_pcapng, file_items, file_first, resolution_of_unit}
use Rattle.cap_bytes.specs.declared.formats.Format.TheVariants.{Pcapng}
use Rattle.cap_source.specs.declared.packets.Meta.{Meta}
use Rattle.cap_time.specs.declared.resolutions.Interface.{Interface}
use Rattle.cap_time.specs.Stamp.{seconds_of, stamp_in}
use Rattle.cap_time.specs.Unit.{in_second}
use Rattle.cap_time.specs.declared.stamps.Unit.{Unit as Fraction}
use Rattle.cap_write.specs.Numbering.{Origin, own, origin_of, Numbered, numbered_of, numbered, refusal_in, refusal_at}
use Rattle.cap_write.specs.Pcap.{first_in_unit, fraction_of, pcap_bytes, pcap_refusal}
use Rattle.cap_time.specs.Clock.{clock_cmp}
use Rattle.cap_source.specs.Times.{meta_time}
use Rattle.cap_write.specs.Texts.{interface_part, packet_part, count_after, first_origins, pcapng_bytes, pcapng_refusal}
use Rattle.cap_write.specs.Texts.{merged_bytes}

-- The fields of a packet and of its interface fit in their widths, and that many bytes may be captured.
pub record NumbersFit (n : Numbered) : Type 0 where
  pub link : n.interface.link < 2 ^ 16
  pub snaplen : n.interface.snaplen < 2 ^ 32
  pub offset : FitsSigned w64 n.interface.offset
  pub units : n.units < 2 ^ 64
  pub original : n.original < 2 ^ 32
  pub frame : length n.frame ≤ 262144

-- what is known of a written packet that is read again, which begins there
abbrev pub meta_again : ℕ → ℕ → Numbered → Meta
meta_again file offset n =
    record {
      file = file;
      offset = offset;
      format = Pcapng;
      skipped = 0;
      instance = n.number;
      interface = n.interface;
      units = Some n.units;
      captured = length n.frame;
      original = n.original;
    }

-- The packets of a written text that begins at that offset, after that many interfaces, as they are read
-- again.
unfoldable pub read_items : Order → ℕ → ℕ → ℕ → List Numbered → List Item
read_items order file offset count [] = []
read_items order file offset count (n ∷ rest) =
    let place = offset + length (interface_part order count n) in
    packet (meta_again file place n) n.frame
    ∷ read_items order file (place + length (packet_part order n)) (count_after count n) rest

-- the interfaces that are described after a packet
abbrev pub described_after : List Interface → Numbered → List Interface
described_after interfaces n = if n.number == length interfaces then interfaces ++ n.interface ∷ [] else interfaces

-- The packets are numbered after those interfaces: each has the next number, or that of an interface that
-- stands there.
abbrev pub AreNumbered : List Interface → List Numbered → Type 0
AreNumbered interfaces [] = ⊤
AreNumbered interfaces (n ∷ rest) =
    ((n.number == length interfaces) ≡ false → slice_get interfaces n.number ≡ Some n.interface)
    × AreNumbered (described_after interfaces n) rest

-- how many are described after them all
abbrev pub all_described : List Interface → List Numbered → List Interface
all_described interfaces [] = interfaces
all_described interfaces (n ∷ rest) = all_described (described_after interfaces n) rest

-- the fields of all packets fit
abbrev pub AllFit : List Numbered → Type 0
AllFit [] = ⊤
AllFit (n ∷ rest) = NumbersFit n × AllFit rest

-- What a written file keeps of a packet: its interface, its time in the interface's units, how many bytes
-- were captured, how many it had, and the captured bytes.
pub record Kept : Type 0 where
  pub interface : Interface
  pub units : Option ℕ
  pub captured : ℕ
  pub original : ℕ
  pub frame : List ℕ

abbrev pub kept_of : Meta → List ℕ → Kept
kept_of meta frame =
    record {
      interface = meta.interface;
      units = meta.units;
      captured = meta.captured;
      original = meta.original;
      frame = frame;
    }

-- the same of the packets of a list
unfoldable pub kept_packets : List Item → List Kept
kept_packets [] = []
kept_packets (packet meta frame ∷ items) = kept_of meta frame ∷ kept_packets items
kept_packets (refused refusal ∷ items) = []

-- A time is too late for a pcap file if it is 2^32 seconds or more.
abbrev pub is_late : Interface → Option ℕ → Bool
is_late interface None = false
is_late interface (Some units) = not (int_lt (seconds_of (stamp_in units interface)) (pos (2 ^ 32)))

-- the packets before the first that is too late, and the refusal of that one, if there is one
unfoldable pub timely : List Item → List Item
timely [] = []
timely (packet meta frame ∷ items) = if is_late meta.interface meta.units then [] else packet meta frame ∷ timely items
timely (refused refusal ∷ items) = refused refusal ∷ []

unfoldable pub late_in : List Item → Option Refusal
late_in [] = None
late_in (packet meta frame ∷ items) = if is_late meta.interface meta.units then Some
    (refusal_at meta TimeRange) else late_in items
late_in (refused refusal ∷ items) = Some refusal

-- Every accepted pcap file whose pcapng text is at most 2^40 bytes long comes back: that text has its first
-- interface and its packets, and the pcap text of it has the same interface, and the packets before the first that
-- is too late, which is refused.
abbrev pub RoundTrip : Type 0
RoundTrip =
    (bytes : List ℕ) (tail : Tail) (file : ℕ) → AreBytes bytes → is_pcapng bytes ≡ false
    → refusal_of (file_items tail file bytes) ≡ None
    → (order back : Order) (tail_again tail_last : Tail) (file_again file_last : ℕ)
    → (let items = file_items tail file bytes in
    let first = file_first tail file bytes in
    let text = pcapng_bytes order file first items in
    let read = file_items tail_again file_again text in
    let first_again = file_first tail_again file_again text in
    let out = pcap_bytes back first_again read in
    length text ≤ 2 ^ 40
    → (pcapng_refusal file first items ≡ None)
    × (first_again ≡ first)
    × (kept_packets read ≡ kept_packets items)
    × (pcap_refusal file_again first_again read ≡ late_in read)
    × (file_first tail_last file_last out ≡ first)
    × (kept_packets (file_items tail_last file_last out) ≡ kept_packets (timely items))
    × (refusal_of (file_items tail_last file_last out) ≡ None))

-- A packet in the form in which it is written as pcap: its whole seconds, and the units of that fraction
-- above them.
abbrev pub record_form : Order → Fraction → Packet → List ℕ
record_form order unit p = record_bytes order (p.units / in_second unit) (p.units % in_second unit) p.original p.frame

abbrev pub records_form : Order → Fraction → List Packet → List ℕ
records_form order unit [] = []
records_form order unit (p ∷ ps) = record_form order unit p ++ records_form order unit ps

-- the seconds, the length and the captured bytes of all packets fit
abbrev pub AllWritten : Fraction → List Packet → Type 0
AllWritten unit [] = ⊤
AllWritten unit (p ∷ ps) =
    (p.units / in_second unit < 2 ^ 32) × (p.original < 2 ^ 32) × (length p.frame ≤ 262144) × AllWritten unit ps

-- A pcap file in that form comes back byte for byte in the same order.
abbrev pub SameBytes : Type 0
SameBytes =
    (header : PcapHeader) (packets : List Packet) (tail : Tail) (file : ℕ)
    → header.snaplen < 2 ^ 32 → header.link < 2 ^ 16 → AllWritten header.unit packets
    → (order : Order) (tail_again : Tail) (file_again : ℕ)
    → (let bytes = header_bytes header ++ records_form header.order header.unit packets in
    let text = pcapng_bytes order file (file_first tail file bytes) (file_items tail file bytes) in
    length bytes ≤ 2 ^ 40 → length text ≤ 2 ^ 40
    → pcap_bytes header.order (file_first tail_again file_again text) (file_items tail_again file_again text) ≡ bytes)

-- An interface for each origin, which the packets of a list have, and the fields of which fit, as theirs do.
pub record HasFields (given : Origin → Interface) (meta : Meta) (bytes : List ℕ) : Type 0 where
  pub interface : meta.interface ≡ given (origin_of meta)
  pub fits : NumbersFit (numbered_of (own []) meta bytes)

abbrev pub AllHave : (Origin → Interface) → List Item → Type 0
AllHave given [] = ⊤
AllHave given (packet meta frame ∷ items) = HasFields given meta frame × AllHave given items
AllHave given (refused refusal ∷ items) = ⊤

-- the numbers of interfaces, and the instances of packets
abbrev pub numbers : List Numbered → List ℕ
numbers [] = []
numbers (n ∷ rest) = n.number ∷ numbers rest

unfoldable pub instances : List Item → List ℕ
instances [] = []
instances (packet meta frame ∷ items) = meta.instance ∷ instances items
instances (refused refusal ∷ items) = []

-- a packet as it is read again: its captured length is the number of its bytes
abbrev pub measured : Numbered → Numbered
measured n = record n { captured = length n.frame }

-- What is written of a list in which the packets of one instance have one interface, and which is at most
-- 2^40 bytes long, has the packets of the list, those before a refusal, in order: both have the same
-- numbered packets, but that the captured length which is read again is the number of a packet's bytes, and a
-- packet's instance is its number there.
abbrev pub MergedAgain : Type 0
MergedAgain =
    (order : Order) (tail : Tail) (file : ℕ) (given : Origin → Interface) (items : List Item) → AllHave given items
    → (let text = merged_bytes order items in
    let again = file_items tail file text in
    length text ≤ 2 ^ 40
    → (numbered (own []) again ≡ map measured (numbered (own []) items))
    × (refusal_in (own []) again ≡ None)
    × (refusal_of again ≡ None)
    × (instances again ≡ numbers (numbered (own []) again)))

-- The packets of a file have the interface that the file's instance of theirs is.
abbrev pub AllAlike : ℕ → (ℕ → Interface) → List Item → Type 0
AllAlike file given [] = ⊤
AllAlike file given (packet meta frame ∷ items) = (meta.file ≡ file) × (meta.interface ≡ given meta.instance)
    × AllAlike file given items
AllAlike file given (refused refusal ∷ items) = AllAlike file given items

-- In every file the packets of one instance have one interface.
abbrev pub OneInterface : Type 0
OneInterface =
    (tail : Tail) (file : ℕ) (bytes : List ℕ) → (given : ℕ → Interface)
    × AllAlike file given (file_items tail file bytes)

-- What is written of any file as pcapng, if it is at most 2^40 bytes long, has the file's first interface, or none if
-- the file has none, and the file's packets, those before a refusal, in order: both have the same numbered packets
-- after the first interface, and nothing is refused there.
abbrev pub PcapngAgain : Type 0
PcapngAgain =
    (order : Order) (tail tail_again : Tail) (file file_again : ℕ) (bytes : List ℕ) → AreBytes bytes
    → (let items = file_items tail file bytes in
    let first = file_first tail file bytes in
    let text = pcapng_bytes order file first items in
    let again = file_items tail_again file_again text in
    length text ≤ 2 ^ 40
    → (numbered (first_origins file_again first) again ≡ numbered (first_origins file first) items)
    × (refusal_in (first_origins file_again first) again ≡ None)
    × (refusal_of again ≡ None)
    × (file_first tail_again file_again text ≡ first))

-- A packet of a file and one that was written for it have the same link, lengths and bytes, and the same time, maybe in
-- another form.
pub record IsSamePacket (meta again : Meta) (bytes bytes_again : List ℕ) : Type 0 where
  pub link : meta.interface.link ≡ again.interface.link
  pub time : clock_cmp (meta_time meta) (meta_time again) ≡ Equal
  pub captured : meta.captured ≡ again.captured
  pub original : meta.original ≡ again.original
  pub frame : bytes ≡ bytes_again

abbrev pub SamePackets : Item → Item → Type 0
SamePackets (packet meta frame) (packet again frame_again) = IsSamePacket meta again frame frame_again
SamePackets (packet meta frame) (refused refusal) = ⊥
SamePackets (refused refusal) again = ⊥

-- The one interface of what is written as pcap of a file with that first interface: its link and snaplen, and the units
-- in which times are written, counted from 1970 (draft-ietf-opsawg-pcap, 4).
abbrev pub written_first : Interface → Interface
written_first first =
    record {
      link = first.link;
      snaplen = first.snaplen;
      resolution = resolution_of_unit (fraction_of first);
      offset = pos 0;
    }

-- What is written of any file as pcap, in whatever unit, has that interface, or none if the file has none. If nothing
-- is refused and it is at most 2^40 bytes long, it has the file's packets, in order.
abbrev pub PcapAgain : Type 0
PcapAgain =
    (order : Order) (unit : Option Fraction) (tail tail_again : Tail) (file file_again : ℕ) (bytes : List ℕ)
    → AreBytes bytes
    → (let items = file_items tail file bytes in
    let first = first_in_unit unit (file_first tail file bytes) in
    let text = pcap_bytes order first items in
    (file_first tail_again file_again text ≡ option_map written_first first)
    × (pcap_refusal file first items ≡ None → length text ≤ 2 ^ 40
    → AllZip SamePackets items (file_items tail_again file_again text)))
