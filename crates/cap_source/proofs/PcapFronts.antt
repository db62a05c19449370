-- A pcap file as it would be if it ended further on, and a file of which nothing was read.
use Rattle.std.proofs.Common.{◌≡◌, ℕ, ◌+◌, ◌-◌, ◌≤◌, ◌&&◌, List, [], ◌∷◌, length, take, Bool, true, false}
use Rattle.std.proofs.Common.{Option, Some, None}
use Rattle.std.proofs.Common.{is_some, IsTrue, IsSomeAnd, ◌⊎◌, Ok, Err, refl, sym, ap, subst, ◌∙◌, arith}
use Rattle.std.proofs.Common.{inl, inr, nat_le}
use Rattle.std.proofs.Common.{length-take}
use Rattle.std.proofs.lemmas.Bool.Decides.{nat_tests}
use Rattle.std.specs.Bool.{⊤}
use Rattle.cap_bytes.proofs.Parsing.{from_none, from_some}
use Rattle.cap_bytes.proofs.Spelling.{number-take}
use Rattle.cap_bytes.specs.Items.{PieceItem, given, items_by_stop, stopped}
use Rattle.cap_bytes.specs.declared.numbers.Order.TheVariants.{Big}
use Rattle.cap_bytes.specs.declared.stops.Stop.TheVariants as stops
use Rattle.cap_bytes.specs.declared.faults.Fault.{Fault}
use Rattle.cap_bytes.specs.declared.faults.Fault.TheVariants.{Memory, Read, Refused, Write}
use Rattle.cap_bytes.specs.declared.faults.Tail.{Tail}
use Rattle.cap_bytes.specs.inner.Reader.{ReaderBreaks, ReaderKeeps, ReaderState}
use Rattle.cap_bytes.specs.inner.Window.{WindowBreaks, WindowKeeps, WindowShows, WindowState, coming}
use Rattle.cap_blocks.specs.Split.{block_items_from, is_section}
use Rattle.cap_pcap.proofs.Items.{items_from-none, items_from-record}
use Rattle.cap_pcap.specs.Split.{record_at, record_frame_at, record_items_from}
use Rattle.cap_pcap.specs.inner.Reader.{GivesHeader, GivesNextRecord, GivesRecord, HasHeader, ReadsHeader}
use Rattle.cap_pcap.specs.inner.Reader.{record_items_at, records_to_come}
use Rattle.cap_pcap.specs.declared.headers.PcapHeader.{PcapHeader}
use Rattle.cap_pcap.specs.declared.records.Record.{Record}
use Rattle.cap_source.proofs.Fronts.{Fronts-same, none-before, not-both}
use Rattle.cap_source.proofs.Pcaps.{ending_given, items_given, known_header}
use Rattle.cap_source.proofs.RecordFronts as records
use Rattle.cap_source.specs.Items.{SectionProgress, ending_from, ending_in, interface_of, is_pcapng, items_from}
use Rattle.cap_source.specs.Items.{items_of_blocks, meta_of, pcap_ending, pcap_ending_with, pcap_items}
use Rattle.cap_source.specs.declared.feeds.FileEnd.{FileEnd}
use Rattle.cap_bytes.specs.declared.formats.Format.{Format}
use Rattle.cap_bytes.specs.declared.formats.Format.TheVariants.{Pcap, Pcapng}
use Rattle.cap_source.specs.declared.readers.Peeked.{Peeked}
use Rattle.cap_source.specs.declared.readers.Peeked.TheVariants as peeks
use Rattle.cap_source.specs.declared.readers.Reader.{Reader}
use Rattle.cap_source.specs.declared.readers.Reader.TheVariants as readers
use Rattle.cap_source.specs.inner.FileState.{header_or}
use Rattle.cap_source.specs.inner.Fronts.{FrontsAnswer, FrontsFail, FrontsPass, bytes_before, pcap_fronts}
use Rattle.cap_source.specs.inner.Fronts.{reader_fronts}
use Rattle.cap_source.specs.inner.Fronts.{record_items_of, unread_fronts}
use Rattle.cap_source.specs.inner.Readers.{LooksAtWindow, has_format, reader_by, reader_file_state}

-- the record and the bytes that are lent, by two ways to split the records to come
same-given : (r s : Record) (bytes frame : List ℕ) (xs ys : List (PieceItem Record))
    → given r bytes ∷ xs ≡ given s frame ∷ ys → (r ≡ s) × (bytes ≡ frame)
same-given r s bytes frame xs ys is = grind arith

lent-frame : (lent : Option (List ℕ)) (r s : Record) (frame : List ℕ) (all xs ys : List (PieceItem Record))
    → IsSomeAnd lent (λ bytes. all ≡ given r bytes ∷ xs) → all ≡ given s frame ∷ ys
    → (r ≡ s) × IsSomeAnd lent (λ bytes. bytes ≡ frame)
lent-frame None r s frame all xs ys is split = absurd is
lent-frame (Some bytes) r s frame all xs ys is split = same-given r s bytes frame xs ys (sym is ∙ split)

lent-split : (lent : Option (List ℕ)) (r : Record) (frame : List ℕ) (all rest : List (PieceItem Record))
    → IsSomeAnd lent (λ bytes. bytes ≡ frame) → all ≡ given r frame ∷ rest
    → IsSomeAnd lent (λ bytes. all ≡ given r bytes ∷ rest)
lent-split None r frame all rest is split = absurd is
lent-split (Some bytes) r frame all rest is split = split ∙ (λ i. given r (sym is i) ∷ rest)

-- the records that stand before an end
abbrev records_before : ReaderState PcapHeader → ℕ → List (PieceItem Record)
records_before reader end = record_items_at reader.known reader.tail reader.file reader.offset
    (bytes_before end reader.offset reader.coming)

module _ (header : PcapHeader) (file : ℕ) (r : Record) (old new : ReaderState PcapHeader) (named : file ≡ old.file)
    (known : old.known ≡ Some header) (g : GivesRecord header old r new) (k : ReaderKeeps old new)
    (t : IsTrue old.told)
    (taken : IsSomeAnd new.lent (λ bytes. records_to_come old ≡ given r bytes ∷ records_to_come new)) where
  known-new : new.known ≡ Some header
  known-new = g.gives.known_is ∙ known

  found : (r ≡ record_at header.order header.unit old.offset old.coming)
      × IsSomeAnd new.lent (λ bytes. bytes ≡ record_frame_at header.order old.coming)
  found =
      let all : records_to_come old ≡ record_items_from header old.tail old.file old.offset old.coming =
      λ i. items_by_stop (g.gives.goes.stop i)
      (record_items_at (known i) old.tail old.file old.offset old.coming) in
      lent-frame new.lent r _ _ (records_to_come old) (records_to_come new) _ taken
      (all ∙ items_from-record header old.tail old.file old.offset old.coming (g.none t))

  record-split : (end : ℕ) → new.offset ≤ end
      → IsSomeAnd new.lent (λ bytes. records_before old end ≡ given r bytes ∷ records_before new end)
  record-split end within =
      lent-split new.lent r (record_frame_at header.order old.coming) (records_before old end) (records_before new end)
      found.1
      (records.items-given header old.known new.known old.tail new.tail old.file new.file old.offset new.offset end
      old.coming new.coming r known g.gives.known_is k.tail k.file g.gives.next (g.none t) found.0
      (g.gives.coming_next t) within)

  begins : IsTrue (is_some new.known)
  begins = rw known-new refl

  -- a record is given, whose packet comes next
  pub record-passed : FrontsPass (pcap_fronts old) (Some (peeks.Packet (meta_of file (interface_of header) r) 0))
      (pcap_fronts new)
  record-passed = record {
    size = ap (λ (n : ℕ). n + length new.coming) g.gives.next
        ∙ records.size-given header old.tail old.file old.offset old.coming new.coming r (g.none t) found.0
        (g.gives.coming_next t);
    broken = g.gives.goes.after ∙ sym g.gives.goes.before;
    begun = λ some. begins;
    fresh = λ f. absurd (not-both (is_some new.known) begins f);
    back = λ end may. (omega (arith, may.0, g.gives.next), inr (omega (arith, may.0, g.gives.next)));
    items = λ end may. sym (items_given file new.file old.file (interface_of header)
        (interface_of (header_or new.known (bytes_before end new.offset new.coming)))
        (interface_of (header_or old.known (bytes_before end old.offset old.coming)))
        r new.lent (records_before old end) (records_before new end) named k.file
        (ap interface_of (sym (known_header old.known header _ known)))
        (ap interface_of (known_header new.known header _ known-new
        ∙ sym (known_header old.known header _ known)))
        g.frame (record-split end may.0));
    ending = λ end may.
        sym (ending_given r new.lent (records_before old end) (records_before new end) (record-split end may.0));
  }

-- the header is read, after which everything is to come as before
module _ (header : PcapHeader) (old new : ReaderState PcapHeader) (k : ReaderKeeps old new) (t : IsTrue old.told) where
  header-first : old.known ≡ None → ReadsHeader header old new → FrontsPass (pcap_fronts old) None (pcap_fronts new)
  header-first unknown h =
      let known : new.known ≡ Some header = h.gives.known_is in
      let begins : IsTrue (is_some new.known) = rw known refl in
      let by = λ (end : ℕ) (within : new.offset ≤ end). records.header-before old.known new.known old.tail new.tail
      old.file new.file old.offset new.offset end old.coming new.coming header unknown known k.tail k.file h.gives.next
      (h.whole t) (h.header_is t) (h.gives.coming_next t) within in
      record {
        size = ap (λ (n : ℕ). n + length new.coming) h.gives.next
            ∙ records.header-size old.offset old.coming new.coming (h.whole t) (h.gives.coming_next t);
        broken = h.gives.goes.after ∙ sym h.gives.goes.before;
        begun = λ some. begins;
        fresh = λ f. absurd (not-both (is_some new.known) begins f);
        back = λ end may. (omega (arith, may.0, h.gives.next), inr (omega (arith, may.0, h.gives.next)));
        items = λ end may.
            let e = by end may.0 in
            let same : header_or old.known (bytes_before end old.offset old.coming)
            ≡ header_or new.known (bytes_before end new.offset new.coming) =
            ap (λ (o : Option PcapHeader). header_or o (bytes_before end old.offset old.coming)) unknown
            ∙ (e.1 ∙ sym (known_header new.known header _ known)) in
            λ i. pcap_items (sym k.file i) (interface_of (same i)) (e.0 i);
        ending = λ end may. ap pcap_ending (by end may.0).0;
      }

  header-by : (known : Option PcapHeader) → old.known ≡ known → HasHeader header old new
      → FrontsPass (pcap_fronts old) None (pcap_fronts new)
  header-by None is h = header-first is (from_none old.known (ReadsHeader header old new) is h.first)
  header-by (Some was) is h =
      subst (λ (s : ReaderState PcapHeader). FrontsPass (pcap_fronts old) None (pcap_fronts s))
      (sym (from_some old.known was (λ w. (header ≡ w) × (new ≡ old)) is h.again).1) (Fronts-same (pcap_fronts old))

  pub header-passed : HasHeader header old new → FrontsPass (pcap_fronts old) None (pcap_fronts new)
  header-passed h = header-by old.known refl h

ended-records : (file : ℕ) (known : Option PcapHeader) (bytes : List ℕ) (items : List (PieceItem Record))
    → items ≡ stopped stops.End ∷ []
    → (pcap_items file (interface_of (header_or known bytes)) items ≡ []) × (pcap_ending items ≡ pcap_ending_with None)
unfolding pcap_items pcap_ending
ended-records file known bytes items is = rw is (refl, refl)

no-records : (known : Option PcapHeader) (tail : Tail) (file offset : ℕ) (bytes : List ℕ) → IsTrue (is_some known)
    → (record_items_of file tail known offset (bytes_before offset offset bytes) ≡ [])
    × (pcap_ending (record_items_at known tail file offset (bytes_before offset offset bytes))
    ≡ pcap_ending_with None)
no-records None tail file offset bytes is = absurd (not-both false is refl)
no-records (Some header) tail file offset bytes is =
    ended-records file (Some header) (bytes_before offset offset bytes) _
    (ap (record_items_from header tail file offset) (none-before offset bytes)
    ∙ items_from-none header tail file offset)

-- a read fails in the header, or in a record
pub record-fails : (old new : ReaderState PcapHeader) (file offset : ℕ) → ReaderBreaks old file offset new
    → old.broken ≡ None → FrontsFail (pcap_fronts old) offset (pcap_fronts new)
record-fails old new file offset b none =
    let at : offset ≡ old.offset = from_none old.broken (offset ≡ old.offset) none b.first in
    let known : is_some new.known ≡ is_some old.known = ap is_some b.known_same in
    let ends = λ (n : IsTrue (is_some new.known)). no-records old.known old.tail old.file old.offset old.coming
    (subst (λ (b : Bool). IsTrue b) known n) in
    subst (λ (place : ℕ). FrontsFail (pcap_fronts old) place (pcap_fronts new)) (sym at)
    (record {
      within = omega arith;
      fresh = λ f. (sym known ∙ f, refl);
      back = λ n. (omega arith, inl (subst (λ (b : Bool). IsTrue b) known n));
      items = λ n. (ends n).0;
      so_far = λ n. ap Some (sym (ends n).1);
      whole = λ n. ap (λ (e : FileEnd). e.ending.cut) (ends n).1;
    })

-- the first four bytes tell the format of a file that ends after them
four-before : (k : ℕ) (bytes : List ℕ) → 4 ≤ k → is_pcapng (take k bytes) ≡ is_pcapng bytes
four-before k bytes few =
    let four : nat_le 4 (length (take k bytes)) ≡ nat_le 4 (length bytes) =
    grind (arith, nat_tests, length-take k bytes) in
    let kind : is_section (take k bytes) ≡ is_section bytes = rw (number-take Big 4 k bytes few) refl in
    λ i. four i && kind i

as-pcap : (tail : Tail) (file : ℕ) (p : SectionProgress) (offset : ℕ) (bytes : List ℕ) → is_pcapng bytes ≡ false
    → (items_from tail file p offset bytes ≡ record_items_of file tail None offset bytes)
    × (ending_from tail file p offset bytes ≡ pcap_ending (record_items_at None tail file offset bytes))
unfolding items_from ending_from
as-pcap tail file p offset bytes is = rw is (refl, refl)

as-pcapng : (tail : Tail) (file : ℕ) (p : SectionProgress) (offset : ℕ) (bytes : List ℕ) → is_pcapng bytes ≡ true
    → (items_from tail file p offset bytes ≡ items_of_blocks file p (block_items_from None tail file offset bytes))
    × (ending_from tail file p offset bytes ≡ ending_in p (block_items_from None tail file offset bytes))
unfolding items_from ending_from
as-pcapng tail file p offset bytes is = rw is (refl, refl)

-- The reader that is made gives what the window did.
module _ (R : Type 0) (w v : WindowState) (tail : Tail) (p : SectionProgress) (s : WindowShows w v)
    (k : WindowKeeps w v)
    (t : IsTrue w.told) where
  bytes-same : (end : ℕ) → bytes_before end w.offset (coming w) ≡ bytes_before end v.offset (coming v)
  bytes-same end = λ i. bytes_before end (sym s.offset i) (sym (s.coming_same t) i)

  size-same : v.offset + length (coming v) ≡ w.offset + length (coming w)
  size-same = λ i. s.offset i + length (s.coming_same t i)

  later : (end : ℕ) → (v.offset ≤ end) × ((false ≡ true) ⊎ (v.offset + 4 ≤ end)) → 4 ≤ end - w.offset
  later end (within, inl not) = absurd (not-both false not refl)
  later end (within, inr more) = omega (arith, s.offset)

  format-before : (kind : Bool) (end : ℕ) → is_pcapng (coming w) ≡ kind → 4 ≤ end - w.offset
      → is_pcapng (bytes_before end w.offset (coming w)) ≡ kind
  format-before kind end is more = four-before (end - w.offset) (coming w) more ∙ is

  pub opened-passed : (format : Format) → has_format format (coming w)
      → FrontsPass (unread_fronts w tail p) None (reader_fronts {R = R} (reader_by (readers.Unread v tail) format) p)
  opened-passed Pcap is = record {
    size = size-same;
    broken = s.goes.after ∙ sym s.goes.before;
    begun = λ none. absurd (not-both false none refl);
    fresh = λ f. (refl, s.offset);
    back = λ end may. (omega (arith, may.0, s.offset), inr (omega (arith, later end may)));
    items = λ end may.
        (as-pcap tail w.file p w.offset _ (format-before false end is (later end may))).0
        ∙ (λ i. record_items_of (sym k.file i) tail None (sym s.offset i) (bytes-same end i));
    ending = λ end may.
        (as-pcap tail w.file p w.offset _ (format-before false end is (later end may))).1
        ∙ (λ i. pcap_ending (record_items_at None tail (sym k.file i) (sym s.offset i) (bytes-same end i)));
  }
  opened-passed Pcapng is = record {
    size = size-same;
    broken = s.goes.after ∙ sym s.goes.before;
    begun = λ none. absurd (not-both false none refl);
    fresh = λ f. (refl, s.offset);
    back = λ end may. (omega (arith, may.0, s.offset), inr (omega (arith, later end may)));
    items = λ end may.
        (as-pcapng tail w.file p w.offset _ (format-before true end is (later end may))).0
        ∙ (λ i. items_of_blocks (sym k.file i) p
        (block_items_from None tail (sym k.file i) (sym s.offset i) (bytes-same end i)));
    ending = λ end may.
        (as-pcapng tail w.file p w.offset _ (format-before true end is (later end may))).1
        ∙ (λ i. ending_in p (block_items_from None tail (sym k.file i) (sym s.offset i) (bytes-same end i)));
  }

-- a read fails before the format is known
pub opening-fails : (w v : WindowState) (tail : Tail) (p : SectionProgress) (file offset : ℕ)
    → WindowBreaks w file offset v
    → v.offset ≡ w.offset → w.broken ≡ None → FrontsFail (unread_fronts w tail p) offset (unread_fronts v tail p)
opening-fails w v tail p file offset b same none =
    let at : offset ≡ w.offset = (from_none w.broken ((offset ≡ v.offset) × IsTrue v.failed) none b.first).0 ∙ same in
    record {
      within = omega (arith, at);
      fresh = λ f. (refl, at);
      back = λ n. absurd (not-both false n refl);
      items = λ n. absurd (not-both false n refl);
      so_far = λ n. absurd (not-both false n refl);
      whole = λ n. absurd (not-both false n refl);
    }

pub record-fault : (header : PcapHeader) (old new : ReaderState PcapHeader) (fault : Fault)
    (next : Option Peeked) → GivesNextRecord header old (Err fault) new
    → FrontsAnswer {A = ⊤} (pcap_fronts old) (Err fault) next (pcap_fronts new)
record-fault header old new (Refused refusal) next g = tt
record-fault header old new (Read file offset) next g = λ none. record-fails old new file offset g none
record-fault header old new Write next g = tt
record-fault header old new Memory next g = tt

pub header-fault : (old new : ReaderState PcapHeader) (fault : Fault) (next : Option Peeked)
    → GivesHeader old (Err fault) new → FrontsAnswer {A = ⊤} (pcap_fronts old) (Err fault) next (pcap_fronts new)
header-fault old new (Refused refusal) next g = tt
header-fault old new (Read file offset) next g = λ none. record-fails old new file offset g.0 none
header-fault old new Write next g = tt
header-fault old new Memory next g = tt

-- what the reader that is made gives, or why none is
pub opened-answer : {R : Type 0} (old unread new : Reader R) (w v : WindowState) (tail : Tail) (format : Format)
    (p : SectionProgress)
    → old ≡ readers.Unread w tail → unread ≡ readers.Unread v tail → new ≡ reader_by unread format
    → LooksAtWindow w (Ok format) v → WindowKeeps w v → IsTrue (reader_fronts old p).told
    → FrontsPass (reader_fronts old p) None (reader_fronts new p)
opened-answer {R} old unread new w v tail format p is_old is_unread is_new s k t =
    let told : IsTrue w.told = rw is_old at t in
    subst (λ (o : Reader R). FrontsPass (reader_fronts o p) None (reader_fronts new p)) (sym is_old)
    (subst (λ (n : Reader R). FrontsPass (unread_fronts w tail p) None (reader_fronts n p))
    (sym (is_new ∙ ap (λ (u : Reader R). reader_by u format) is_unread))
    (opened-passed R w v tail p s.0 k told format (s.1 told)))

opening-fault : (w v : WindowState) (tail : Tail) (p : SectionProgress) (fault : Fault) → LooksAtWindow w (Err fault) v
    → FrontsAnswer {A = ⊤} (unread_fronts w tail p) (Err fault) None (unread_fronts v tail p)
opening-fault w v tail p (Refused refusal) g = tt
opening-fault w v tail p (Read file offset) g = λ none. opening-fails w v tail p file offset g.0 g.1 none
opening-fault w v tail p Write g = tt
opening-fault w v tail p Memory g = tt

pub opening-answer : {R : Type 0} (old : Reader R) (w v : WindowState) (tail : Tail) (p : SectionProgress)
    (fault : Fault)
    → old ≡ readers.Unread w tail → LooksAtWindow w (Err fault) v
    → FrontsAnswer {A = ⊤} (reader_fronts old p) (Err fault) None (unread_fronts v tail p)
opening-answer {R} old w v tail p fault is g =
    subst (λ (o : Reader R). FrontsAnswer {A = ⊤} (reader_fronts o p) (Err fault) None (unread_fronts v tail p))
    (sym is) (opening-fault w v tail p fault g)

-- whether its device tells its bytes
pub told-same : {R : Type 0} (reader : Reader R) (p : SectionProgress) → IsTrue (reader_fronts reader p).told
    → IsTrue (reader_file_state reader p).told
told-same (readers.Unread window tail) p t = t
told-same (readers.Pcap reader) p t = t
told-same (readers.Pcapng reader) p t = t
told-same readers.Moved p t = t
