-- A file splits in one way, and its items are those of the split.
use Rattle.std.proofs.Common.{◌≡◌, ℕ, zero, suc, ◌+◌, ◌^◌, ◌≤◌, ◌<◌, List, [], ◌∷◌, ◌++◌, length, take, drop, Option}
use Rattle.std.proofs.Common.{Some, None, refl, sym, ◌∙◌, ap, subst, arith, length-drop, length-take-le}
use Rattle.std.proofs.lemmas.List.{take_at, drop_at, take-append-drop}
use Rattle.cap_bytes.specs.Items.{given, stopped}
use Rattle.cap_bytes.specs.Number.{number}
use Rattle.cap_bytes.specs.declared.faults.Tail.{Tail}
use Rattle.cap_bytes.specs.declared.faults.Tail.TheVariants.{Refuse}
use Rattle.cap_bytes.specs.declared.numbers.Order.{Order}
use Rattle.cap_time.specs.declared.stamps.Unit.{Unit as Fraction}
use Rattle.cap_pcap.specs.Grammar.{Packet, packet_size, SpellsRecord}
use Rattle.cap_pcap.specs.inner.Laws.{OneRecord, OneRecordSplit, EveryRecordSplit, RecordSplitItems, RecordRead}
use Rattle.cap_pcap.specs.inner.Reader.{packet_of}
use Rattle.cap_pcap.specs.Split.{captured_at, record_at, record_frame_at, record_stop_at, record_items_from}
use Rattle.cap_pcap.specs.Split.{HasNoRecord, SplitsRecords, record_of}
use Rattle.cap_pcap.specs.declared.headers.PcapHeader.{PcapHeader}
use Rattle.cap_bytes.specs.declared.stops.Stop.{Stop}
use Rattle.cap_pcap.proofs.Faults.{Fits-from_stop_at, stop_at-fits}
use Rattle.cap_pcap.proofs.Items.{items_from-stop, items_from-record}
use Rattle.cap_bytes.proofs.Spelling.{number-drop_append}
use Rattle.cap_pcap.proofs.Spelling.{SpellsRecord-at, Reads-spelled}

-- how many bytes spell a packet
pub length-spelled : (order : Order) (unit : Fraction) (p : Packet) (a : List ℕ) → SpellsRecord order unit p a
    → length a ≡ packet_size p
length-spelled order unit p a s = omega (arith, s.size, ap length s.frame, length-drop 16 a)

-- one spelling, one packet
same_spelling : (order : Order) (unit : Fraction) (p q : Packet) (a b : List ℕ) → SpellsRecord order unit p a
    → SpellsRecord order unit q b → a ≡ b → p ≡ q
same_spelling order unit p q a b s t same = grind arith

pub one_record-law : OneRecord
one_record-law order unit p q a b x y s t whole =
    let head = s.size in
    let other = t.size in
    let captured : length p.frame ≡ length q.frame =
    sym s.captured ∙ (sym (number-drop_append order 4 8 a x (omega arith)) ∙ (ap (λ l. number order 4 (drop 8 l)) whole
    ∙ (number-drop_append order 4 8 b y (omega arith) ∙ t.captured))) in
    let first = length-spelled order unit p a s in
    let second = length-spelled order unit q b t in
    let size : length a ≡ length b = omega arith in
    let same : a ≡ b = sym (take_at a x (length a) refl)
    ∙ (ap (take (length a)) whole ∙ take_at b y (length a) (sym size)) in (
      same,
      same_spelling order unit p q a b s t same,
      sym (drop_at a x (length a) refl) ∙ (ap (drop (length a)) whole ∙ drop_at b y (length a) (sym size)),
    )

-- a split after the same packet
moved : (order : Order) (unit : Fraction) (offset : ℕ) (bytes : List ℕ) (p q : Packet) (qs : List Packet)
    (s : List ℕ) → p ≡ q
    → SplitsRecords order unit (offset + packet_size q) (drop (packet_size q) bytes) qs s
    → SplitsRecords order unit (offset + packet_size p) (drop (packet_size p) bytes) qs s
moved order unit offset bytes p q qs s same rest = grind arith

pub one_split-law : OneRecordSplit
one_split-law order unit offset bytes [] [] r s a b = (refl, sym a.0 ∙ b.0)
one_split-law order unit offset bytes [] (q ∷ qs) r s a b =
    absurd (a.1 q (subst (λ l. SpellsRecord order unit q (take (packet_size q) l)) a.0 b.0) b.1)
one_split-law order unit offset bytes (p ∷ ps) [] r s a b =
    absurd (b.1 p (subst (λ l. SpellsRecord order unit p (take (packet_size p) l)) b.0 a.0) a.1)
one_split-law order unit offset bytes (p ∷ ps) (q ∷ qs) r s a b =
    let one = one_record-law order unit p q (take (packet_size p) bytes) (take (packet_size q) bytes)
    (drop (packet_size p) bytes) (drop (packet_size q) bytes)
    a.0 b.0 (take-append-drop (packet_size p) bytes ∙ sym (take-append-drop (packet_size q) bytes)) in
    let rest = one_split-law order unit (offset + packet_size p) (drop (packet_size p) bytes) ps qs r s a.2
    (moved order unit offset bytes p q qs s one.1 b.2) in
    (ap (λ x. x ∷ ps) one.1 ∙ ap (λ l. q ∷ l) rest.0, rest.1)

-- if a record stands, nothing ends the records
spelled_goes : (order : Order) (unit : Fraction) (tail : Tail) (file offset : ℕ) (bytes : List ℕ) (p : Packet)
    → SpellsRecord order unit p (take (packet_size p) bytes) → offset + packet_size p ≤ 2 ^ 40
    → record_stop_at order tail file offset bytes ≡ None
spelled_goes order unit tail file offset bytes p s limit =
    stop_at-fits order tail file offset bytes (Reads-spelled order unit offset p bytes s limit).fits

-- a packet that stands at the front
record Stands (order : Order) (unit : Fraction) (offset : ℕ) (bytes : List ℕ) : Type 0 where
  packet : Packet
  spelled : SpellsRecord order unit packet (take (packet_size packet) bytes)
  limit : offset + packet_size packet ≤ 2 ^ 40
  some : 16 ≤ length bytes

-- there is one if nothing ends the records
stands : (order : Order) (unit : Fraction) (tail : Tail) (file offset : ℕ) (bytes : List ℕ)
    → record_stop_at order tail file offset bytes ≡ None
    → Stands order unit offset bytes
stands order unit tail file offset bytes none =
    let fits = Fits-from_stop_at order tail file offset bytes none in
    let size : length (record_frame_at order bytes) ≡ captured_at order bytes =
    length-take-le (captured_at order bytes) (drop 16 bytes) (omega (arith, length-drop 16 bytes, fits.whole)) in
    let packet = packet_of (record_at order unit offset bytes) (record_frame_at order bytes) in
    record {
      packet = packet;
      spelled = subst (λ (n : ℕ). SpellsRecord order unit packet (take (16 + n) bytes)) (sym size)
          (SpellsRecord-at order unit offset bytes fits);
      limit = omega (arith, size, fits.limit);
      some = fits.head;
    }

-- what ends the records if no record begins
ends : (header : PcapHeader) (tail : Tail) (file offset : ℕ) (bytes : List ℕ) (stop : Option Stop)
    → record_stop_at header.order tail file offset bytes ≡ stop
    → HasNoRecord header.order header.unit offset bytes
    → (s : Stop) × (record_stop_at header.order tail file offset bytes ≡ Some s)
    × (record_items_from header tail file offset bytes ≡ stopped s ∷ [])
ends header tail file offset bytes (Some stop) is none =
    (stop, is, items_from-stop header tail file offset bytes stop is)
ends header tail file offset bytes None is none =
    let there = stands header.order header.unit tail file offset bytes is in
    absurd (none there.packet there.spelled there.limit)

-- the first item, if a record stands
pub items_from-spelled : (header : PcapHeader) (tail : Tail) (file offset : ℕ) (bytes : List ℕ) (p : Packet)
    → SpellsRecord header.order header.unit p (take (packet_size p) bytes) → offset + packet_size p ≤ 2 ^ 40
    → record_items_from header tail file offset bytes
    ≡ given (record_of offset p) p.frame ∷ record_items_from header tail file (offset + packet_size p)
    (drop (packet_size p) bytes)
items_from-spelled header tail file offset bytes p s limit =
    grind (arith, Reads-spelled, items_from-record, stop_at-fits)

pub split_items-law : RecordSplitItems
split_items-law header tail file offset bytes [] rest split =
    let end = ends header tail file offset rest (record_stop_at header.order tail file offset rest) refl split.1 in
    (end.0, end.1, ap (record_items_from header tail file offset) split.0 ∙ end.2)
split_items-law header tail file offset bytes (p ∷ ps) rest split =
    let later = split_items-law header tail file (offset + packet_size p)
    (drop (packet_size p) bytes) ps rest split.2 in (
      later.0,
      later.1,
      items_from-spelled header tail file offset bytes p split.0 split.1
          ∙ ap (λ l. given (record_of offset p) p.frame ∷ l) later.2,
    )

-- a split by what ends the records
split_by : (n : ℕ) (order : Order) (unit : Fraction) (offset : ℕ) (bytes : List ℕ) (stop : Option Stop)
    → record_stop_at order Refuse 0 offset bytes ≡ stop
    → ((later : ℕ) (rest : List ℕ) → length rest < length bytes → (ps : List Packet) × (r : List ℕ)
    × SplitsRecords order unit later rest ps r)
    → (packets : List Packet) × (rest : List ℕ) × SplitsRecords order unit offset bytes packets rest
split_by n order unit offset bytes (Some stop) is behind = (
  [],
  bytes,
  (
    refl,
    λ p spelled limit. let goes =
        spelled_goes order unit Refuse 0 offset bytes p spelled limit in cc,
  ),
)
split_by n order unit offset bytes None is behind =
    let there = stands order unit Refuse 0 offset bytes is in
    let some = there.some in
    let size = packet_size there.packet in
    let later = behind (offset + size) (drop size bytes) (omega (arith, length-drop size bytes)) in
    (there.packet ∷ later.0, later.1, (there.spelled, there.limit, later.2))

split_below : (n : ℕ) (order : Order) (unit : Fraction) (offset : ℕ) (bytes : List ℕ) → length bytes < n
    → (packets : List Packet) × (rest : List ℕ) × SplitsRecords order unit offset bytes packets rest
split_below zero order unit offset bytes few = absurd (omega arith)
split_below (suc n) order unit offset bytes few =
    split_by n order unit offset bytes (record_stop_at order Refuse 0 offset bytes) refl
    (λ later rest fewer. split_below n order unit later rest (omega arith))

pub every_split-law : EveryRecordSplit
every_split-law order unit offset bytes = split_below (suc (length bytes)) order unit offset bytes (omega arith)

pub record_read-law : RecordRead
record_read-law header tail file offset packet bytes rest spelled limit =
    let size = length-spelled header.order header.unit packet bytes spelled in
    let front : take (packet_size packet) (bytes ++ rest) ≡ bytes = take_at bytes rest (packet_size packet) size in
    items_from-spelled header tail file offset (bytes ++ rest) packet (rw front spelled) (omega (arith, size, limit))
    ∙ rw (drop_at bytes rest (packet_size packet) size, ← size) refl
