-- What comes next of a pcap file that is fed, whatever is fed later.
use Rattle.std.proofs.Common.{◌≡◌, ℕ, ◌+◌, ◌≤◌, ◌<◌, Bool, true, false, List, ◌++◌, length, take, drop}
use Rattle.std.proofs.Common.{Option}
use Rattle.std.proofs.Common.{Some, None, refl, sym, ap, ◌∙◌, arith, length-append, if◌then◌else◌}
use Rattle.std.proofs.lemmas.Bool.Decides.{nat_tests}
use Rattle.std.proofs.lemmas.List.{drop-append-le}
use Rattle.cap_bytes.proofs.Spelling.{number-append}
use Rattle.cap_bytes.specs.Items.{stop_by, stop_where}
use Rattle.cap_bytes.specs.declared.faults.Rule.{Rule}
use Rattle.cap_bytes.specs.declared.faults.Rule.TheVariants.{Cut}
use Rattle.cap_bytes.specs.declared.faults.Tail.{Tail}
use Rattle.cap_bytes.specs.declared.stops.Stop.{Stop}
use Rattle.cap_pcap.proofs.Faults.{Fits, Fits-from_none, captured_at-append, stop_at-fits}
use Rattle.cap_pcap.proofs.Faults.{Fits-append}
use Rattle.cap_pcap.proofs.Items as records
use Rattle.cap_pcap.proofs.More.{frame-same, header-refused, header-there, record-same}
use Rattle.cap_pcap.specs.Split.{captured_at, header_at, pcap_file_items, pcap_header_fault, record_at, record_fault}
use Rattle.cap_pcap.specs.Split.{record_frame_at, record_items_from}
use Rattle.cap_pcap.specs.declared.headers.PcapHeader.{PcapHeader}
use Rattle.cap_pcap.specs.declared.records.Record.{Record}
use Rattle.cap_bytes.specs.declared.formats.Format.TheVariants.{Pcap}
use Rattle.cap_bytes.specs.declared.stops.Stop.TheVariants as stops
use Rattle.cap_source.specs.Fed.{packet_then, rest_from, rest_of_records, rest_of_stop}
use Rattle.cap_source.specs.Items.{SectionProgress, ending_from, interface_of, is_pcapng, items_from, meta_of}
use Rattle.cap_source.specs.Items.{pcap_ending, pcap_items}

-- ---- records

module _ (file : ℕ) (header : PcapHeader) (tail : Tail) (offset : ℕ) where
  -- what ends them
  pub records-stop : (progress : SectionProgress) (w : List ℕ) (stop : Stop)
      → stop_where true tail file offset w (record_fault header.order offset w) ≡ Some stop
      → rest_of_records file (interface_of header) (record_items_from header tail file offset w)
      ≡ rest_of_stop Pcap progress stop
  unfolding pcap_items pcap_ending
  records-stop progress w stop is =
      ap (rest_of_records file (interface_of header)) (records.items_from-stop header tail file offset w stop is)

  pub record-some : (b : List ℕ) (rule : Rule) → record_fault header.order offset b ≡ Some rule → (rule ≡ Cut → ⊥)
      → 0 < length b
  unfolding record_fault
  record-some b rule is other = grind (arith, nat_tests)

  given-record : (w : List ℕ) → Fits header.order offset w
      → rest_of_records file (interface_of header) (record_items_from header tail file offset w)
      ≡ packet_then (meta_of file (interface_of header) (record_at header.order header.unit offset w))
      (record_frame_at header.order w)
      (rest_of_records file (interface_of header)
      (record_items_from header tail file (offset + (16 + captured_at header.order w))
      (drop (16 + captured_at header.order w) w)))
  unfolding pcap_items pcap_ending
  given-record w f =
      ap (rest_of_records file (interface_of header))
      (records.items_from-record header tail file offset w (stop_at-fits header.order tail file offset w f))

  -- one that is there
  pub record-fed : (b later : List ℕ) (r : Record) → record_fault header.order offset b ≡ None
      → r ≡ record_at header.order header.unit offset b
      → rest_of_records file (interface_of header) (record_items_from header tail file offset (b ++ later))
      ≡ packet_then (meta_of file (interface_of header) r) (take r.captured (drop 16 b))
      (rest_of_records file (interface_of header)
      (record_items_from header tail file (offset + (16 + r.captured)) (drop (16 + r.captured) b ++ later)))
  unfolding record_at
  record-fed b later r none is =
      let f = Fits-from_none header.order offset b none in
      let size = captured_at-append header.order b later f.head in
      let captured : r.captured ≡ captured_at header.order b = ap (λ (x : Record). x.captured) is in
      let i = interface_of header in
      given-record (b ++ later) (Fits-append header.order offset b later f)
      ∙ (λ k. packet_then (meta_of file i (record-same header.order header.unit offset b later f.head k))
      (frame-same header.order offset b later f k)
      (rest_of_records file i (record_items_from header tail file (offset + (16 + size k)) (drop (16 + size k) (b
      ++ later)))))
      ∙ (ap (λ (l : List ℕ). packet_then (meta_of file i (record_at header.order header.unit offset b))
      (record_frame_at header.order b)
      (rest_of_records file i (record_items_from header tail file (offset + (16 + captured_at header.order b)) l)))
      (drop-append-le (16 + captured_at header.order b) b later f.whole)
      ∙ sym (λ k. packet_then (meta_of file i (is k)) (take (captured k) (drop 16 b))
      (rest_of_records file i (record_items_from header tail file (offset + (16 + captured k))
      (drop (16 + captured k) b ++ later)))))

-- ---- the header

-- a file's format is told by 4 bytes
pub format-append : (b later : List ℕ) → 4 ≤ length b → is_pcapng (b ++ later) ≡ is_pcapng b
format-append b later h = grind (arith, nat_tests, number-append, length-append)

-- the rule that the header of a file breaks that isn't a pcapng file
pub pcap_rule : ℕ → List ℕ → Option Rule
pcap_rule offset w = if is_pcapng w then None else pcap_header_fault offset w

module _ (tail : Tail) (file : ℕ) (progress : SectionProgress) (offset : ℕ) where
  pub header-some : (b : List ℕ) (rule : Rule) → pcap_header_fault offset b ≡ Some rule → (rule ≡ Cut → ⊥)
      → 4 ≤ length b
  unfolding pcap_header_fault
  header-some b rule is other = grind (arith, nat_tests)

  header-rule : (w : List ℕ) (rule : Rule) → is_pcapng w ≡ false → pcap_header_fault offset w ≡ Some rule
      → rest_from tail file progress offset w
      ≡ rest_of_stop Pcap progress (stops.Refused (record { file = file; offset = offset; rule = rule }))
  unfolding items_from ending_from pcap_file_items pcap_items pcap_ending
  header-rule w rule other is = rw (other, is) refl

  header-none : (w : List ℕ) → is_pcapng w ≡ false → pcap_header_fault offset w ≡ None
      → rest_from tail file progress offset w
      ≡ rest_of_records file (interface_of (header_at w))
      (record_items_from (header_at w) tail file (offset + 24) (drop 24 w))
  unfolding items_from ending_from pcap_file_items
  header-none w other is = rw (other, is) refl

  -- what a header is refused by
  stop-outside : (w : List ℕ) (fault : Option Rule) (stop : Stop) → stop_where false tail file offset w fault
      ≡ Some stop
      → (rule : Rule) × (fault ≡ Some rule) × (stop ≡ stop_by false tail file offset (length w) rule)
  unfolding stop_where
  stop-outside w (Some rule) stop is = (rule, refl, grind arith)
  stop-outside w None stop is = absurd (grind arith)

  outside : (size : ℕ) (rule : Rule)
      → stop_by false tail file offset size rule
      ≡ stops.Refused (record { file = file; offset = offset; rule = rule })
  outside size rule = grind arith

  by-format : (w : List ℕ) (pcapng : Bool) (stop : Stop) → is_pcapng w ≡ pcapng
      → stop_where false tail file offset w (if pcapng then None else pcap_header_fault offset w) ≡ Some stop
      → rest_from tail file progress offset w ≡ rest_of_stop Pcap progress stop
  by-format w true stop format is = absurd (none (stop-outside w None stop is))
    where
      none : ((rule : Rule) × (None ≡ Some rule) × (stop ≡ stop_by false tail file offset (length w) rule)) → ⊥
      none h = grind arith
  by-format w false stop format is =
      let h = stop-outside w (pcap_header_fault offset w) stop is in
      header-rule w h.0 format h.1 ∙ ap (rest_of_stop Pcap progress) (sym (outside (length w) h.0) ∙ sym h.2)

  pub header-stop : (w : List ℕ) (stop : Stop) → stop_where false tail file offset w (pcap_rule offset w) ≡ Some stop
      → rest_from tail file progress offset w ≡ rest_of_stop Pcap progress stop
  unfolding pcap_rule
  header-stop w stop is = by-format w (is_pcapng w) stop refl is

  pub rule-here : (b : List ℕ) (rule : Rule) → is_pcapng b ≡ false → pcap_header_fault offset b ≡ Some rule
      → pcap_rule offset b ≡ Some rule
  unfolding pcap_rule
  rule-here b rule other is = rw other is

  pub rule-later : (b later : List ℕ) (rule : Rule) → is_pcapng b ≡ false → pcap_header_fault offset b ≡ Some rule
      → (rule ≡ Cut → ⊥) → pcap_rule offset (b ++ later) ≡ Some rule
  rule-later b later rule other is uncut =
      rule-here (b ++ later) rule (format-append b later (header-some b rule is uncut) ∙ other)
      (header-refused offset b later rule is uncut)

  -- one that is there
  pub header-fed : (b later : List ℕ) → is_pcapng b ≡ false → pcap_header_fault offset b ≡ None
      → rest_from tail file progress offset (b ++ later)
      ≡ rest_of_records file (interface_of (header_at b))
      (record_items_from (header_at b) tail file (offset + 24) (drop 24 b ++ later))
  header-fed b later other is =
      let h = header-there offset b later is in
      header-none (b ++ later) (format-append b later (omega (arith, h.2)) ∙ other) h.0
      ∙ (λ k. rest_of_records file (interface_of (h.1 k))
      (record_items_from (h.1 k) tail file (offset + 24) (drop-append-le 24 b later h.2 k)))
