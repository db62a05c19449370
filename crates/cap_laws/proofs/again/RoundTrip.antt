-- Every accepted pcap file comes back from its pcapng text.
use Rattle.std.proofs.Common.{◌≡◌, ◌==◌, ◌&&◌, ℕ, ◌+◌, ◌^◌, ◌≤◌, ◌<◌, nat_le, List, [], ◌∷◌, ◌++◌, length, drop, Bool}
use Rattle.std.proofs.Common.{false, Option, Some, None, refl, sym, ap, ◌∙◌, subst, arith, length-append, if◌then◌else◌}
use Rattle.std.specs.Prelude.{FitsSigned, pos}
use Rattle.std.specs.Int.{w64}
use Rattle.cap_blocks.proofs.Parts.{length-packet_body}
use Rattle.cap_blocks.specs.Grammar.{section_kind, block_bytes, section_bytes, interface_bytes}
use Rattle.cap_blocks.specs.Split.{AreBytes}
use Rattle.cap_bytes.proofs.Spelling.{number-append, length-bytes_of}
use Rattle.cap_bytes.specs.Number.{number}
use Rattle.cap_bytes.specs.declared.faults.Rule.{Rule}
use Rattle.cap_bytes.specs.declared.faults.Tail.{Tail}
use Rattle.cap_bytes.specs.declared.numbers.Order.{Order}
use Rattle.cap_bytes.specs.declared.numbers.Order.TheVariants.{Big, Little}
use Rattle.cap_pcap.proofs.Splitting.{every_split-law, split_items-law}
use Rattle.cap_pcap.specs.Split as records
use Rattle.cap_pcap.specs.Split.{record_items_with}
use Rattle.cap_bytes.specs.declared.stops.Stop.{Stop}
use Rattle.cap_bytes.specs.declared.stops.Stop.TheVariants as stops
use Rattle.cap_pcap.proofs.Again.{flips_bytes, header_at-text, header_again-law}
use Rattle.cap_pcap.specs.Grammar.{Packet, magic_of, header_bytes}
use Rattle.cap_pcap.specs.declared.headers.PcapHeader.{PcapHeader}
use Rattle.cap_blocks.proofs.Bytes.{AreBytes-drop}
use Rattle.cap_source.proofs.Fields.{AllHeld, held-splits, below_header}
use Rattle.cap_source.proofs.Frames.{read_header}
use Rattle.cap_source.specs.Feed.{Item}
use Rattle.cap_source.specs.Items.{is_pcapng, pcap_items, interface_of, unless_refused, items_from, first_from}
use Rattle.cap_source.specs.Items.{file_items, file_first}
use Rattle.cap_time.specs.declared.resolutions.Interface.{Interface}
use Rattle.cap_time.specs.declared.stamps.Unit.{Unit as Fraction}
use Rattle.cap_write.specs.Numbering.{Numbered}
use Rattle.cap_write.specs.Pcap.{pcap_bytes, pcap_refusal, records_refusal}
use Rattle.cap_source.specs.Feed.{refusal_of}
use Rattle.cap_write.specs.Texts.{packet_part, count_after, packets_bytes, front_bytes, pcapng_bytes, pcapng_refusal}
use Rattle.cap_laws.proofs.again.Files.{length-section_bytes, pcapng-again}
use Rattle.cap_laws.proofs.again.Held.{AllFit-held, held-written, early-written, records-again}
use Rattle.cap_laws.proofs.again.Out.{fits, early, records_bytes-read, records_refusal-read, timely-packets}
use Rattle.cap_commands.specs.BlockText.{refusal_of_stop}
use Rattle.cap_laws.proofs.again.Packed.{number_one, number_all, numbered-packets, refusal-packets}
use Rattle.cap_laws.proofs.again.Packed.{refusal_of-packets, kept-packets, kept-read, IsNumbered-packets}
use Rattle.cap_laws.proofs.again.Packed.{all_described-packets}
use Rattle.cap_laws.proofs.again.Trips.{fraction_of-header}
use Rattle.cap_laws.specs.again.Laws.{kept_packets, timely, late_in, read_items, record_form, records_form, AllWritten}
use Rattle.cap_laws.specs.again.Laws.{RoundTrip, SameBytes}

-- a written pcap header is no section header
other_magic : (unit : Fraction) (n : ℕ) → n ≡ magic_of unit → (n == section_kind) ≡ false
other_magic unit n is = grind arith

no_section : (header : PcapHeader) (order : Order) → header.order ≡ order → header.snaplen < 2 ^ 32
    → header.link < 2 ^ 16
    → (number Big 4 (header_bytes header) == section_kind) ≡ false
no_section header Big is snaplen link =
    grind (arith, (header_again-law header snaplen link).0, other_magic, header_again-law)
no_section header Little is snaplen link = grind (arith, flips_bytes)

and_false : (b : Bool) → (b && false) ≡ false
and_false b = grind arith

pub is_pcapng-header : (header : PcapHeader) (rest : List ℕ) → header.snaplen < 2 ^ 32 → header.link < 2 ^ 16
    → is_pcapng (header_bytes header ++ rest) ≡ false
is_pcapng-header header rest snaplen link = grind
    (arith, header_again-law, nat_le, number-append, no_section, and_false)

-- what an accepted pcap file holds
pub record Accepted (tail : Tail) (file : ℕ) (bytes : List ℕ) (header : PcapHeader) : Type 0 where
  pub packets : List Packet
  pub stop : Stop
  pub items : file_items tail file bytes ≡ pcap_items file (interface_of header) (record_items_with 24 packets stop)
  pub first : file_first tail file bytes ≡ Some (interface_of header)
  pub unrefused : refusal_of_stop stop ≡ None
  pub held : AllHeld packets
  pub snaplen : header.snaplen < 2 ^ 32
  pub link : header.link < 2 ^ 16

pcap_only : (tail : Tail) (file : ℕ) (bytes : List ℕ) → is_pcapng bytes ≡ false
    → file_items tail file bytes ≡ pcap_items file (interface_of (records.header_at bytes))
    (records.pcap_file_items tail file 0 bytes)
unfolding items_from
pcap_only tail file bytes is = rw is refl

first_only : (tail : Tail) (file : ℕ) (bytes : List ℕ) → is_pcapng bytes ≡ false
    → file_first tail file bytes ≡ unless_refused (records.pcap_header_fault 0 bytes)
    (interface_of (records.header_at bytes))
unfolding first_from
first_only tail file bytes is = rw is refl

-- what begins with a written header has its interface
pub first-header : (tail : Tail) (file : ℕ) (header : PcapHeader) (rest : List ℕ) → header.snaplen < 2 ^ 32
    → header.link < 2 ^ 16
    → file_first tail file (header_bytes header ++ rest) ≡ Some (interface_of header)
first-header tail file header rest snaplen link = grind (arith, header_at-text, first_only, is_pcapng-header)

refused_header : (tail : Tail) (file : ℕ) (bytes : List ℕ) (i : Interface) (rule : Rule)
    → records.pcap_header_fault 0 bytes ≡ Some rule
    → refusal_of (pcap_items file i (records.pcap_file_items tail file 0 bytes)) ≡ None → ⊥
unfolding records.pcap_file_items pcap_items refusal_of
refused_header tail file bytes i rule is none = cc

pub accepted : (tail : Tail) (file : ℕ) (bytes : List ℕ) → AreBytes bytes → is_pcapng bytes ≡ false
    → refusal_of (file_items tail file bytes) ≡ None
    → Accepted tail file bytes (records.header_at bytes)
accepted tail file bytes are plain none = by (records.pcap_header_fault 0 bytes) refl
  where
    by : (fault : Option Rule) → records.pcap_header_fault 0 bytes ≡ fault
        → Accepted tail file bytes (records.header_at bytes)
    by (Some rule) is = grind (arith, refused_header, pcap_only)
    by None is =
        let header = records.header_at bytes in
        let split = every_split-law header.order header.unit 24 (drop 24 bytes) in
        let whole = split_items-law header tail file 24 (drop 24 bytes) split.0 split.1 split.2 in
        let items = pcap_only tail file bytes plain ∙ ap (pcap_items file (interface_of header))
        (read_header tail file bytes is ∙ whole.2) in
        record {
          packets = split.0;
          stop = whole.0;
          items = items;
          first = first_only tail file bytes plain ∙ ap (λ f. unless_refused f (interface_of header)) is;
          unrefused = sym (refusal_of-packets file (interface_of header) 24 split.0 whole.0)
              ∙ (ap refusal_of (sym items) ∙ none);
          held = held-splits header.order header.unit 24 (drop 24 bytes) split.0 split.1
              (AreBytes-drop 24 bytes are) split.2;
          snaplen = (below_header bytes are).0;
          link = (below_header bytes are).1;
        }

-- what is written of it as pcapng, and read again
abbrev pub header_with : Order → PcapHeader → PcapHeader
header_with order h = record { order = order; unit = h.unit; snaplen = h.snaplen; link = h.link }

-- what is written as pcap is no longer than what is written as pcapng
length-record : (order : Order) (unit : Fraction) (p : Packet) → length (record_form order unit p) ≡ 16 + length p.frame
length-record order unit p = simp (length-append, length-bytes_of) refl

length-block : (order : Order) (kind : ℕ) (body : List ℕ) → length (block_bytes order kind body) ≡ 12 + length body
unfolding block_bytes
length-block order kind body = simp (length-append, length-bytes_of) (omega arith)

length-packet : (order : Order) (n : Numbered) → 16 + length n.frame ≤ length (packet_part order n)
length-packet order n = grind (arith, length-block, length-packet_body)

length-packets : (order : Order) (count : ℕ) (n : Numbered) (rest : List Numbered)
    → 16 + length n.frame + length (packets_bytes order (count_after count n) rest)
    ≤ length (packets_bytes order count (n ∷ rest))
unfolding packets_bytes
length-packets order count n rest = grind (arith, length-packet, length-append)

shorter_by : (b : Bool) (back : Order) (unit : Fraction) (p : Packet) (ps : List Packet) (n : ℕ)
    → 16 + length p.frame + length (records_form back unit ps) ≤ n
    → length (records_form back unit (if b then p ∷ ps else [])) ≤ n
shorter_by b back unit p ps n few = grind (arith, length-append, record_form, records_form, length-record)

pub shorter : (back order : Order) (h : PcapHeader) (count : ℕ) (ps : List Packet)
    → length (records_form back h.unit (early h.unit ps))
    ≤ length (packets_bytes order count (number_all (interface_of h) ps))
shorter back order h count [] = omega arith
shorter back order h count (p ∷ ps) =
    let n = number_one (interface_of h) p in
    shorter_by (fits h.unit p) back h.unit p (early h.unit ps)
    (length (packets_bytes order count (number_all (interface_of h) (p ∷ ps))))
    (omega (
      arith,
      shorter back order h (count_after count n) ps,
      length-packets order count n (number_all (interface_of h) ps),
    ))

-- What is written of an accepted file as pcapng.
pub record WrittenOnce (order : Order) (file : ℕ) (items : List Item) (first : Option Interface) (i : Interface)
    (ps : List Packet) : Type 0 where
  pub text : pcapng_bytes order file first items ≡ front_bytes order (Some i) ++ packets_bytes order 1 (number_all i ps)
  pub refusal : pcapng_refusal file first items ≡ None

pub written_once : (order : Order) (tail : Tail) (file : ℕ) (bytes : List ℕ) (h : PcapHeader)
    (a : Accepted tail file bytes h)
    → WrittenOnce order file (file_items tail file bytes) (file_first tail file bytes) (interface_of h) a.packets
written_once order tail file bytes h a = grind (arith, numbered-packets, refusal-packets)

-- What is written as pcap of the packets that were read again, and read once more.
out_bytes : (back order : Order) (h : PcapHeader) (file offset : ℕ) (ps : List Packet)
    → pcap_bytes back (Some (interface_of h)) (read_items order file offset 1 (number_all (interface_of h) ps))
    ≡ header_bytes (header_with back h) ++ records_form back h.unit (early h.unit ps)
out_bytes back order h file offset ps = grind (arith, number_all, fraction_of-header, records_bytes-read)

out_items : (back : Order) (h : PcapHeader) (tail : Tail) (file : ℕ) (ps : List Packet) → h.snaplen < 2 ^ 32
    → h.link < 2 ^ 16 → AllHeld ps
    → 24 + length (records_form back h.unit (early h.unit ps)) ≤ 2 ^ 40
    → file_items tail file (header_bytes (header_with back h) ++ records_form back h.unit (early h.unit ps))
    ≡ pcap_items file (interface_of h) (record_items_with 24 (early h.unit ps) stops.End)
out_items back h tail file ps snaplen link held limit =
    let header = header_with back h in
    let rest = records_form back h.unit (early h.unit ps) in
    let out = header_bytes header ++ rest in
    pcap_only tail file out (is_pcapng-header header rest snaplen link)
    ∙ (ap (λ x. pcap_items file (interface_of x) (records.pcap_file_items tail file 0 out))
    (header_at-text header rest snaplen link).1
    ∙ ap (pcap_items file (interface_of h))
    ((header_again-law header snaplen link).1 tail file rest ∙ records-again header tail file 24 ps held limit))

zero_fits : FitsSigned w64 (pos 0)
zero_fits = record { sfits = omega arith }

-- what comes of an accepted file that is written as pcapng, read again, and written as pcap
pub record ComesBack (back order : Order) (tail_again : Tail) (file_again : ℕ) (text : List ℕ) (h : PcapHeader)
    (ps : List Packet) : Type 0 where
  pub read : file_items tail_again file_again text
      ≡ read_items order file_again (28 + length (interface_bytes order (interface_of h))) 1
      (number_all (interface_of h) ps)
  pub first : file_first tail_again file_again text ≡ Some (interface_of h)
  pub out : pcap_bytes back (file_first tail_again file_again text) (file_items tail_again file_again text)
      ≡ header_bytes (header_with back h) ++ records_form back h.unit (early h.unit ps)
  pub short : 24 + length (records_form back h.unit (early h.unit ps)) ≤ 2 ^ 40

comes_back : (back order : Order) (tail tail_again : Tail) (file file_again : ℕ) (bytes : List ℕ) (h : PcapHeader)
    (a : Accepted tail file bytes h)
    → length (pcapng_bytes order file (file_first tail file bytes) (file_items tail file bytes)) ≤ 2 ^ 40
    → ComesBack back order tail_again file_again (pcapng_bytes order file (file_first tail file bytes)
    (file_items tail file bytes)) h a.packets
comes_back back order tail tail_again file file_again bytes h a limit =
    let i = interface_of h in
    let ps = a.packets in
    let once = written_once order tail file bytes h a in
    let text = pcapng_bytes order file (file_first tail file bytes) (file_items tail file bytes) in
    let written = front_bytes order (Some i) ++ packets_bytes order 1 (number_all i ps) in
    let room : length written ≤ 2 ^ 40 = subst (λ t. length t ≤ 2 ^ 40) once.text limit in
    let place = 28 + length (interface_bytes order i) in
    let again = pcapng-again order tail_again file_again i (number_all i ps) a.link a.snaplen zero_fits
    (IsNumbered-packets i ps)
    (AllFit-held i ps a.link a.snaplen zero_fits a.held) (omega (arith, ap length (all_described-packets i ps))) room in
    let read : file_items tail_again file_again text ≡ read_items order file_again place 1 (number_all i ps) =
    ap (file_items tail_again file_again) once.text ∙ again.0 in
    let first : file_first tail_again file_again text ≡ Some i = ap (file_first tail_again file_again) once.text
    ∙ again.1 in
    record {
      read = read;
      first = first;
      out = grind (arith, out_bytes);
      short =
          omega (
            arith,
            room,
            shorter back order h 1 ps,
            length-append (front_bytes order (Some i)) (packets_bytes order 1 (number_all i ps)),
            length-append (section_bytes order) (interface_bytes order i),
            length-section_bytes order,
          );
    }

pub round_trip-law : RoundTrip
round_trip-law bytes tail file are plain none order back tail_again tail_last file_again file_last limit =
    let h = records.header_at bytes in
    let i = interface_of h in
    let a = accepted tail file bytes are plain none in
    let ps = a.packets in
    let text = pcapng_bytes order file (file_first tail file bytes) (file_items tail file bytes) in
    let b = comes_back back order tail tail_again file file_again bytes h a limit in
    let place = 28 + length (interface_bytes order i) in
    let last = ap (file_items tail_last file_last) b.out
    ∙ out_items back h tail_last file_last ps a.snaplen a.link a.held b.short in (
      (written_once order tail file bytes h a).refusal,
      b.first ∙ sym a.first,
      ap kept_packets b.read ∙ (kept-read order file_again place 1 i ps
          ∙ sym (ap kept_packets a.items ∙ kept-packets file i 24 ps a.stop)),
      ap (λ f. pcap_refusal file_again f (file_items tail_again file_again text)) b.first
          ∙ (ap (records_refusal i) b.read ∙ (records_refusal-read h order file_again place 1 ps
          ∙ sym (ap late_in b.read))),
      ap (file_first tail_last file_last) b.out
          ∙ (first-header tail_last file_last (header_with back h)
          (records_form back h.unit (early h.unit ps)) a.snaplen a.link ∙ sym a.first),
      ap kept_packets last ∙ (kept-packets file_last i 24 (early h.unit ps) stops.End
          ∙ sym (ap (λ l. kept_packets (timely l)) a.items ∙ timely-packets h file 24 ps a.stop)),
      ap refusal_of last ∙ refusal_of-packets file_last i 24 (early h.unit ps) stops.End,
    )

-- what comes of a file in the written form
pub items-written : (tail : Tail) (file : ℕ) (h : PcapHeader) (ps : List Packet) → h.snaplen < 2 ^ 32 → h.link < 2 ^ 16
    → AllWritten h.unit ps
    → length (header_bytes h ++ records_form h.order h.unit ps) ≤ 2 ^ 40
    → file_items tail file (header_bytes h ++ records_form h.order h.unit ps)
    ≡ pcap_items file (interface_of h) (record_items_with 24 ps stops.End)
items-written tail file h ps snaplen link w limit =
    grind (arith, records_form, early-written, header_again-law, length-append, out_items, held-written)

-- it is accepted
accepted-written : (tail : Tail) (file : ℕ) (h : PcapHeader) (ps : List Packet) → h.snaplen < 2 ^ 32 → h.link < 2 ^ 16
    → AllWritten h.unit ps
    → length (header_bytes h ++ records_form h.order h.unit ps) ≤ 2 ^ 40
    → Accepted tail file (header_bytes h ++ records_form h.order h.unit ps) h
accepted-written tail file h ps snaplen link w limit =
    grind (arith, items-written, first-header, records_form, held-written)

pub same_bytes-law : SameBytes
unfolding accepted-written
same_bytes-law h ps tail file snaplen link w order tail_again file_again short limit =
    let a = accepted-written tail file h ps snaplen link w short in
    let b = comes_back h.order order tail tail_again file file_again
    (header_bytes h ++ records_form h.order h.unit ps) h a limit in
    b.out ∙ ap (λ l. header_bytes h ++ records_form h.order h.unit l) (early-written h.unit ps w)
