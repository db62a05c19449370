-- The records of a pcap file as it would be if it ended further on.
use Rattle.std.proofs.Common.{◌≡◌, ℕ, ◌+◌, ◌-◌, ◌≤◌, List, ◌∷◌, ◌++◌, length, take, drop, Option, Some, None, sym}
use Rattle.std.proofs.Common.{ap, subst, ◌∙◌, arith, length-drop, length-take, refl}
use Rattle.std.proofs.lemmas.List.{take-append-drop, drop-take}
use Rattle.cap_bytes.specs.Items.{given}
use Rattle.cap_bytes.specs.declared.faults.Tail.{Tail}
use Rattle.cap_pcap.proofs.Faults.{Fits, Fits-from_stop_at, captured_at-append, header_at-append, header_fault-append}
use Rattle.cap_pcap.proofs.Faults.{FitsHeader-from_none, stop_at-fits}
use Rattle.cap_pcap.proofs.Items.{items_from-record}
use Rattle.cap_pcap.proofs.More.{frame-same, record-same}
use Rattle.cap_pcap.specs.Split.{captured_at, header_at, pcap_file_items, pcap_header_fault, record_at, record_frame_at}
use Rattle.cap_pcap.specs.Split.{record_items_from, record_stop_at}
use Rattle.cap_pcap.specs.inner.Reader.{record_items_at}
use Rattle.cap_pcap.specs.declared.headers.PcapHeader.{PcapHeader}
use Rattle.cap_pcap.specs.declared.records.Record.{Record}

-- The first bytes of some bytes at whose front a record stands, if they have all of it.
record HasRecord (header : PcapHeader) (tail : Tail) (file offset : ℕ) (xs ys : List ℕ) : Type 0 where
  pub none : record_stop_at header.order tail file offset xs ≡ None
  pub captured : captured_at header.order xs ≡ captured_at header.order (xs ++ ys)
  pub piece : record_at header.order header.unit offset xs ≡ record_at header.order header.unit offset (xs ++ ys)
  pub frame : record_frame_at header.order xs ≡ record_frame_at header.order (xs ++ ys)

has-record : (header : PcapHeader) (tail : Tail) (file offset : ℕ) (xs ys : List ℕ)
    → record_stop_at header.order tail file offset (xs ++ ys) ≡ None
    → 16 + captured_at header.order (xs ++ ys) ≤ length xs → HasRecord header tail file offset xs ys
has-record header tail file offset xs ys none enough =
    let fit = Fits-from_stop_at header.order tail file offset (xs ++ ys) none in
    let head : 16 ≤ length xs = omega (arith, enough) in
    let captured = captured_at-append header.order xs ys head in
    let fits : Fits header.order offset xs = record {
      head = head;
      captured = omega (arith, captured, fit.captured);
      limit = omega (arith, captured, fit.limit);
      whole = omega (arith, captured, enough);
    } in
    record {
      none = stop_at-fits header.order tail file offset xs fits;
      captured = sym captured;
      piece = sym (record-same header.order header.unit offset xs ys head);
      frame = sym (frame-same header.order offset xs ys fits);
    }

module _ (header : PcapHeader) (tail : Tail) (file offset : ℕ) where
  -- the items of such first bytes: the record, and those of the rest of them
  items-of_front : (xs ys : List ℕ) (captured : ℕ)
      → record_stop_at header.order tail file offset (xs ++ ys) ≡ None
      → captured_at header.order (xs ++ ys) ≡ captured → 16 + captured ≤ length xs
      → record_items_from header tail file offset xs
      ≡ given (record_at header.order header.unit offset (xs ++ ys)) (record_frame_at header.order (xs ++ ys))
      ∷ record_items_from header tail file (offset + (16 + captured)) (drop (16 + captured) xs)
  items-of_front xs ys captured none is enough =
      let h = has-record header tail file offset xs ys none (omega (arith, is, enough)) in
      let c = h.captured ∙ is in
      items_from-record header tail file offset xs h.none
      ∙ (λ i. given (h.piece i) (h.frame i)
      ∷ record_items_from header tail file (offset + (16 + c i)) (drop (16 + c i) xs))

  -- the same of the bytes before an end, which isn't in the record
  items-before : (bytes : List ℕ) (captured size : ℕ)
      → record_stop_at header.order tail file offset bytes ≡ None → captured_at header.order bytes ≡ captured
      → record_items_from header tail file offset (take ((16 + captured) + size) bytes)
      ≡ given (record_at header.order header.unit offset bytes) (record_frame_at header.order bytes)
      ∷ record_items_from header tail file (offset + (16 + captured)) (take size (drop (16 + captured) bytes))
  items-before bytes captured size none is =
      let total = 16 + captured in
      let within = (Fits-from_stop_at header.order tail file offset bytes none).whole in
      let few : total ≤ length (take (total + size) bytes) =
      omega (arith, length-take (total + size) bytes, within, is) in
      let whole = sym (take-append-drop (total + size) bytes) in
      let by = items-of_front (take (total + size) bytes) (drop (total + size) bytes) captured
      (subst (λ (l : List ℕ). record_stop_at header.order tail file offset l ≡ None) whole none)
      (subst (λ (l : List ℕ). captured_at header.order l ≡ captured) whole is) few in
      by ∙ (λ i. given (record_at header.order header.unit offset (sym whole i))
      (record_frame_at header.order (sym whole i))
      ∷ record_items_from header tail file (offset + total) (drop-take total size bytes i))

-- the size of what comes before an end
size-before : (offset total later end : ℕ) → later ≡ offset + total → later ≤ end → end - offset ≡ total + (end - later)
size-before offset total later end is within = omega (arith, is)

-- the same of a record that was given
pub items-given : (header : PcapHeader) (a b : Option PcapHeader) (tail tail' : Tail)
    (file file' offset offset' end : ℕ) (bytes bytes' : List ℕ) (r : Record)
    → a ≡ Some header → b ≡ a → tail' ≡ tail → file' ≡ file → offset' ≡ offset + (16 + r.captured)
    → record_stop_at header.order tail file offset bytes ≡ None
    → r ≡ record_at header.order header.unit offset bytes → bytes' ≡ drop (16 + r.captured) bytes → offset' ≤ end
    → record_items_at a tail file offset (take (end - offset) bytes)
    ≡ given r (record_frame_at header.order bytes)
    ∷ record_items_at b tail' file' offset' (take (end - offset') bytes')
unfolding record_at
items-given header a b tail tail' file file' offset offset' end bytes bytes' r is_a is_b t f o none is rest within =
    let captured : captured_at header.order bytes ≡ r.captured = ap (λ (k : Record). k.captured) (sym is) in
    let size = size-before offset (16 + r.captured) offset' end o within in
    (λ i. record_items_at (is_a i) tail file offset (take (size i) bytes))
    ∙ (items-before header tail file offset bytes r.captured (end - offset') none captured
    ∙ (λ i. given (sym is i) (record_frame_at header.order bytes)
    ∷ record_items_at (sym (is_b ∙ is_a) i) (sym t i) (sym f i) (sym o i) (take (end - offset') (sym rest i))))

pub size-given : (header : PcapHeader) (tail : Tail) (file offset : ℕ) (bytes bytes' : List ℕ) (r : Record)
    → record_stop_at header.order tail file offset bytes ≡ None
    → r ≡ record_at header.order header.unit offset bytes → bytes' ≡ drop (16 + r.captured) bytes
    → (offset + (16 + r.captured)) + length bytes' ≡ offset + length bytes
unfolding record_at
size-given header tail file offset bytes bytes' r none is rest =
    let captured : captured_at header.order bytes ≡ r.captured = ap (λ (k : Record). k.captured) (sym is) in
    let fit = Fits-from_stop_at header.order tail file offset bytes none in
    omega (arith, fit.whole, captured, ap length rest, length-drop (16 + r.captured) bytes)

-- The first bytes of a file whose header stands, if they have all of it: the items are those of the rest of them.
header-of_front : (tail : Tail) (file offset : ℕ) (xs ys : List ℕ) (header : PcapHeader)
    → pcap_header_fault offset (xs ++ ys) ≡ None → header ≡ header_at (xs ++ ys) → 24 ≤ length xs
    → (pcap_file_items tail file offset xs ≡ record_items_from header tail file (offset + 24) (drop 24 xs))
    × (header_at xs ≡ header)
unfolding pcap_file_items
header-of_front tail file offset xs ys header none is enough =
    let whole = sym (header_fault-append offset xs ys enough) ∙ none in
    let same = sym (header_at-append xs ys enough) ∙ sym is in
    (rw (whole, same) refl, same)

pub header-before : (a b : Option PcapHeader) (tail tail' : Tail) (file file' offset offset' end : ℕ)
    (bytes bytes' : List ℕ) (header : PcapHeader)
    → a ≡ None → b ≡ Some header → tail' ≡ tail → file' ≡ file → offset' ≡ offset + 24
    → pcap_header_fault offset bytes ≡ None → header ≡ header_at bytes → bytes' ≡ drop 24 bytes → offset' ≤ end
    → (record_items_at a tail file offset (take (end - offset) bytes)
    ≡ record_items_at b tail' file' offset' (take (end - offset') bytes'))
    × (header_at (take (end - offset) bytes) ≡ header)
header-before a b tail tail' file file' offset offset' end bytes bytes' header is_a is_b t f o none is rest within =
    let size = end - offset in
    let more : size ≡ 24 + (end - offset') = size-before offset 24 offset' end o within in
    let fit = FitsHeader-from_none offset bytes none in
    let few : 24 ≤ length (take size bytes) = omega (arith, length-take size bytes, fit.whole, more) in
    let whole = sym (take-append-drop size bytes) in
    let by = header-of_front tail file offset (take size bytes) (drop size bytes) header
    (subst (λ (l : List ℕ). pcap_header_fault offset l ≡ None) whole none)
    (subst (λ (l : List ℕ). header ≡ header_at l) whole is) few in
    let left : drop 24 (take size bytes) ≡ take (end - offset') bytes' =
    ap (λ (n : ℕ). drop 24 (take n bytes)) more ∙ (drop-take 24 (end - offset') bytes
    ∙ ap (take (end - offset')) (sym rest)) in (
      (λ i. record_items_at (is_a i) tail file offset (take size bytes))
          ∙ (by.0 ∙ (λ i. record_items_at (sym is_b i) (sym t i) (sym f i) (sym o i) (left i))),
      by.1,
    )

pub header-size : (offset : ℕ) (bytes bytes' : List ℕ) → pcap_header_fault offset bytes ≡ None
    → bytes' ≡ drop 24 bytes → (offset + 24) + length bytes' ≡ offset + length bytes
header-size offset bytes bytes' none rest =
    let fit = FitsHeader-from_none offset bytes none in
    omega (arith, fit.whole, ap length rest, length-drop 24 bytes)
