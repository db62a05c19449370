-- What is written is read again.
use Rattle.std.proofs.Common.{◌≡◌, ℕ, ◌%◌, ◌^◌, ◌<◌, List, [], ◌++◌, length, drop, get_or, None, true, refl, sym, ◌∙◌}
use Rattle.std.proofs.Common.{ap, subst, arith, append_assoc, append-nil, length-append, ◌||◌}
use Rattle.std.proofs.Math.Nat.{mod-eq_of_lt}
use Rattle.std.proofs.lemmas.List.{drop_at}
use Rattle.cap_bytes.specs.Number.{number, bytes_of}
use Rattle.cap_bytes.specs.declared.faults.Tail.{Tail}
use Rattle.cap_bytes.specs.declared.numbers.Order.{Order}
use Rattle.cap_bytes.specs.declared.numbers.Order.TheVariants.{Big, Little}
use Rattle.cap_time.specs.declared.stamps.Unit.{Unit as Fraction}
use Rattle.cap_time.specs.declared.stamps.Unit.TheVariants.{Micro, Nano}
use Rattle.cap_pcap.specs.Grammar.{magic_of, SpellsHeader, header_bytes, head_bytes, record_bytes}
use Rattle.cap_pcap.specs.inner.Laws.{HeaderRead, HeaderAgain, RecordAgain}
use Rattle.cap_pcap.specs.Split.{is_magic, pcap_order_at, pcap_unit_at, pcap_header_fault, header_at, pcap_file_items}
use Rattle.cap_pcap.specs.Split.{record_items_from}
use Rattle.cap_pcap.specs.declared.headers.PcapHeader.{PcapHeader}
use Rattle.cap_pcap.proofs.Faults.{FitsHeader, header_fault-fits}
use Rattle.cap_bytes.proofs.Spelling.{number-drop_append}
use Rattle.cap_bytes.proofs.Spelling.{number-append, number-bytes_of, length-bytes_of}

-- how a magic reads in the other order
abbrev pub flipped : Fraction → ℕ
flipped Micro = 0xD4C3B2A1
flipped Nano = 0x4D3CB2A1

-- The magic tells its order and its unit.
record Tells (order : Order) (unit : Fraction) (bytes : List ℕ) : Type 0 where
  there : (is_magic Big bytes || is_magic Little bytes) ≡ true
  order_is : pcap_order_at bytes ≡ order
  unit_is : pcap_unit_at order bytes ≡ unit

tells : (order : Order) (unit : Fraction) (bytes : List ℕ) → number order 4 bytes ≡ magic_of unit
    → (order ≡ Little → number Big 4 bytes ≡ flipped unit) → Tells order unit bytes
tells Big Micro bytes magic flip = record { there = rw magic refl; order_is = rw magic refl; unit_is = rw magic refl }
tells Big Nano bytes magic flip = record { there = rw magic refl; order_is = rw magic refl; unit_is = rw magic refl }
tells Little Micro bytes magic flip =
    let big = flip refl in record { there = rw (big, magic) refl; order_is = rw big refl; unit_is = rw magic refl }
tells Little Nano bytes magic flip = grind arith

-- four bytes that spell a little-endian magic don't spell a big-endian one
flips : (unit : Fraction) (bytes : List ℕ) → ((i : ℕ) → get_or bytes i 0 < 256) → number Little 4 bytes ≡ magic_of unit
    → number Big 4 bytes ≡ flipped unit
unfolding number
flips unit bytes small magic = grind arith

reads : (header : PcapHeader) (bytes rest : List ℕ) → SpellsHeader header bytes
    → (header.order ≡ Little → number Big 4 bytes ≡ flipped header.unit)
    → (pcap_header_fault 0 (bytes ++ rest) ≡ None) × (header_at (bytes ++ rest) ≡ header)
unfolding header_at
reads header bytes rest s flip =
    let size = s.size in
    let whole = bytes ++ rest in
    let order = header.order in
    let magic = number-append order 4 bytes rest (omega arith) in
    let t = tells order header.unit whole (magic ∙ s.magic) (λ little. number-append Big 4 bytes rest (omega arith)
    ∙ flip little) in
    let major = number-drop_append order 2 4 bytes rest (omega arith) ∙ s.major in
    let minor = number-drop_append order 2 6 bytes rest (omega arith) ∙ s.minor in
    let snaplen = number-drop_append order 4 16 bytes rest (omega arith) ∙ sym s.snaplen in
    let link = ap (λ n. n % 65536) (number-drop_append order 4 20 bytes rest (omega arith)) ∙ sym s.link in
    let fits : FitsHeader 0 whole = record {
      whole = omega (arith, length-append bytes rest);
      magic = t.there;
      version = rw (t.order_is, major, minor) refl;
      limit = omega arith;
    } in
    (header_fault-fits 0 whole fits, rw (t.order_is, t.unit_is, snaplen, link) refl)

pub header_read-law : HeaderRead
header_read-law header bytes rest small s =
    reads header bytes rest s (λ little. flips header.unit bytes small
    (subst (λ (o : Order). number o 4 bytes ≡ magic_of header.unit) little s.magic))

-- a number of a text, by the parts before and after it
field : (order : Order) (k x i : ℕ) (front back whole : List ℕ) → x < 256 ^ k → length front ≡ i
    → whole ≡ front ++ (bytes_of order k x ++ back)
    → number order k (drop i whole) ≡ x
field order k x i front back whole fits size is = grind (arith, drop_at, number-bytes_of)

magic_fits : (unit : Fraction) → magic_of unit < 256 ^ 4
magic_fits unit = grind arith

pub record_again-law : RecordAgain
record_again-law order unit seconds fraction original frame s f o limit =
    let b = λ (x : ℕ). bytes_of order 4 x in
    let n = length frame in
    let len = λ (x : ℕ). length-bytes_of order 4 x in
    let head_size : length (head_bytes order seconds fraction n original) ≡ 16 =
    simp (length-append, length-bytes_of) in
    let text = record_bytes order seconds fraction original frame in
    let at_seconds : number order 4 text ≡ seconds =
    field order 4 seconds 0 [] (b fraction ++ (b n ++ (b original ++ frame))) text (omega arith) refl
    (simp append_assoc) in
    let at_fraction : number order 4 (drop 4 text) ≡ fraction =
    field order 4 fraction 4 (b seconds) (b n ++ (b original ++ frame)) text (omega arith) (len seconds)
    (simp append_assoc) in
    let at_captured : number order 4 (drop 8 text) ≡ n =
    field order 4 n 8 (b seconds ++ b fraction) (b original ++ frame) text (omega arith)
    (simp (length-append, length-bytes_of)) (simp append_assoc) in
    let at_original : number order 4 (drop 12 text) ≡ original =
    field order 4 original 12 (b seconds ++ b fraction ++ b n) frame text (omega arith)
    (simp (length-append, length-bytes_of)) (simp append_assoc) in
    record {
      size = omega (arith, head_size, length-append (head_bytes order seconds fraction n original) frame);
      units = rw (at_seconds, at_fraction) refl;
      captured = at_captured;
      original = sym at_original;
      frame = sym (drop_at (head_bytes order seconds fraction n original) frame 16 head_size);
      limit = limit;
    }

-- the magic of a written header, read big
flipped_bytes : (unit : Fraction) (rest : List ℕ)
    → number Big 4 (bytes_of Little 4 (magic_of unit) ++ rest) ≡ flipped unit
unfolding number bytes_of
flipped_bytes unit rest = grind arith

-- what is written for a header spells it
spelled : (header : PcapHeader) → header.snaplen < 2 ^ 32 → header.link < 2 ^ 16
    → SpellsHeader header (header_bytes header)
spelled header snaplen link =
    let order = header.order in
    let magic = bytes_of order 4 (magic_of header.unit) in
    let major = bytes_of order 2 2 in
    let minor = bytes_of order 2 4 in
    let none = bytes_of order 4 0 in
    let most = bytes_of order 4 header.snaplen in
    let word = bytes_of order 4 header.link in
    let text = header_bytes header in
    record {
      size = simp (length-append, length-bytes_of);
      magic = field order 4 (magic_of header.unit) 0 [] (major ++ (minor ++ (none ++ (none ++ (most ++ word))))) text
          (magic_fits header.unit) refl (simp append_assoc);
      major = field order 2 2 4 magic (minor ++ (none ++ (none ++ (most ++ word)))) text (omega arith)
          (length-bytes_of order 4 (magic_of header.unit)) (simp append_assoc);
      minor = field order 2 4 6 (magic ++ major) (none ++ (none ++ (most ++ word))) text (omega arith)
          (simp (length-append, length-bytes_of)) (simp append_assoc);
      snaplen = sym (field order 4 header.snaplen 16 (magic ++ major ++ minor ++ none ++ none) word text (omega arith)
          (simp (length-append, length-bytes_of)) (simp append_assoc));
      link = sym (ap (λ n. n % 65536) (field order 4 header.link 20
          (magic ++ major ++ minor ++ none ++ none ++ most) [] text (omega arith)
          (simp (length-append, length-bytes_of)) (simp (append_assoc, append-nil))) ∙ mod-eq_of_lt link);
    }

-- the order and the unit of a written header
pub flips_bytes : (header : PcapHeader) → header.order ≡ Little
    → number Big 4 (header_bytes header) ≡ flipped header.unit
flips_bytes header little = grind (arith, append_assoc, flipped, flipped_bytes)

written_items : (header : PcapHeader) → SpellsHeader header (header_bytes header)
    → (tail : Tail) (file : ℕ) (rest : List ℕ)
    → pcap_file_items tail file 0 (header_bytes header ++ rest) ≡ record_items_from header tail file 24 rest
unfolding pcap_file_items
written_items header s tail file rest =
    let r = reads header (header_bytes header) rest s (flips_bytes header) in
    rw (r.0, r.1) (ap (record_items_from header tail file 24) (drop_at (header_bytes header) rest 24 s.size))

pub header_again-law : HeaderAgain
header_again-law header snaplen link =
    let s = spelled header snaplen link in
    (s, λ tail file rest. written_items header s tail file rest)

-- it is read again as that header, whatever follows
pub header_at-text : (header : PcapHeader) (rest : List ℕ) → header.snaplen < 2 ^ 32 → header.link < 2 ^ 16
    → (pcap_header_fault 0 (header_bytes header ++ rest) ≡ None) × (header_at (header_bytes header ++ rest) ≡ header)
header_at-text header rest snaplen link = reads header (header_bytes header) rest (spelled header snaplen link)
    (flips_bytes header)
