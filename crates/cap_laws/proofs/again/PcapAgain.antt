-- A file of either format, written as pcap and read again.
use Rattle.std.proofs.Common.{◌≡◌, ◌==◌, ℕ, ℤ, pos, negsuc, ◌+◌, ◌*◌, ◌/◌, ◌%◌, ◌^◌, ◌≤◌, ◌<◌, List, [], ◌∷◌, ◌++◌}
use Rattle.std.proofs.Common.{length, Bool, true, Option, Some, None, Equal, refl, sym, ap, ◌∙◌, subst, arith}
use Rattle.std.proofs.lemmas.Nat.{div-mul-add, mod-mul-add}
use Rattle.std.proofs.lemmas.Option.{none-some}
use Rattle.std.specs.List.{AllByRecursion, AllZip}
use Rattle.std.specs.Option.{MatchOption, option_map}
use Rattle.std.specs.Prelude.{nat_abs}
use Rattle.cap_bytes.specs.declared.faults.Refusal.{Refusal}
use Rattle.cap_bytes.specs.declared.faults.Tail.{Tail}
use Rattle.cap_bytes.specs.declared.numbers.Order.{Order}
use Rattle.cap_time.specs.Clock.{clock_cmp}
use Rattle.cap_pcap.specs.Grammar.{Packet, packet_size, header_bytes, record_bytes}
use Rattle.cap_pcap.specs.Split.{record_items_with, record_of}
use Rattle.cap_pcap.specs.declared.headers.PcapHeader.{PcapHeader}
use Rattle.cap_bytes.specs.declared.stops.Stop.TheVariants as stops
use Rattle.cap_pcap.specs.Split as records
use Rattle.cap_source.proofs.Fields.{fields_fit-law}
use Rattle.cap_source.specs.Feed.{Item, packet, refused}
use Rattle.cap_source.specs.inner.Fields.{ItemFits}
use Rattle.cap_source.specs.Items.{file_items, file_first, first_from, interface_of, meta_of, pcap_items}
use Rattle.cap_source.specs.declared.packets.Meta.{Meta}
use Rattle.cap_time.proofs.WholeUnits.{whole_of_pair, in_second_positive}
use Rattle.cap_time.specs.Stamp.{stamp_cmp, stamp_in, time_of}
use Rattle.cap_time.specs.Resolution.{units_of}
use Rattle.cap_time.specs.Time.{Time, time_at, time_cmp, IsWholeTime, IsNeverWhole}
use Rattle.cap_time.proofs.PrintedForm.{time_at-stamped}
use Rattle.cap_time.proofs.StampForms.{time_of-stamp_in}
use Rattle.std.proofs.lemmas.Int.{ints}
use Rattle.cap_time.specs.Unit.{in_second}
use Rattle.cap_time.specs.declared.resolutions.Interface.{Interface}
use Rattle.cap_time.specs.declared.stamps.Stamp.{Stamp}
use Rattle.cap_time.specs.declared.stamps.Unit.{Unit as Fraction}
use Rattle.cap_write.proofs.Records.{fault_by}
use Rattle.cap_write.proofs.Units.{made-of}
use Rattle.cap_write.specs.Pcap.{fraction_of, header_of, whole_time, time_fault, written_record_fault, whole_time_in}
use Rattle.cap_write.specs.Pcap.{written_time}
use Rattle.cap_write.specs.Pcap.{time_bytes, packet_record, records_bytes, records_refusal, bare_refusal, pcap_bytes}
use Rattle.cap_write.specs.Pcap.{first_in_unit, pcap_refusal}
use Rattle.cap_write.specs.Texts.{text_or}
use Rattle.cap_laws.proofs.again.FirstInterface.{first-of}
use Rattle.cap_laws.proofs.again.RoundTrip.{first-header, items-written}
use Rattle.cap_laws.proofs.again.Trips.{units_of-unit}
use Rattle.cap_laws.specs.again.Laws.{AllWritten, record_form, records_form, IsSamePacket, SamePackets, written_first}
use Rattle.cap_laws.specs.again.Laws.{PcapAgain}

-- ---- times

-- A packet's time is that of whole seconds and of a fraction's units, and both are written.
record IsTimed (first : Interface) (meta : Meta) : Type 0 where
  units : ℕ
  is : meta.units ≡ Some units
  link : meta.interface.link ≡ first.link
  seconds : ℕ
  rest : ℕ
  time : whole_time (fraction_of first) meta.interface units ≡ Some (pos seconds, rest)
  few : seconds < 2 ^ 32

-- a time without a fault is whole seconds that fit, and units
whole_by : (w : Option (ℤ × ℕ)) → time_fault w ≡ None → (s : ℕ) × (n : ℕ) × (w ≡ Some (pos s, n)) × (s < 2 ^ 32)
whole_by (Some (pos s, n)) none = (s, n, refl, grind arith)
whole_by (Some (negsuc s, n)) none = grind arith
whole_by None none = grind arith

timed_by : (first : Interface) (meta : Meta) (units : Option ℕ) (same : Bool) → meta.units ≡ units
    → (meta.interface.link == first.link) ≡ same
    → fault_by units same (fraction_of first) meta.interface ≡ None → IsTimed first meta
timed_by first meta (Some units) true is link none =
    let t = whole_by (whole_time (fraction_of first) meta.interface units) none in
    record { units = units; is = is; link = grind (arith, link); seconds = t.0; rest = t.1; time = t.2; few = t.3 }
timed_by first meta units same is link none = grind arith

timed : (first : Interface) (meta : Meta) → written_record_fault first meta ≡ None → IsTimed first meta
unfolding written_record_fault
timed first meta none = timed_by first meta meta.units (meta.interface.link == first.link) refl refl none

-- what is known of such a time
whole : (first : Interface) (meta : Meta) (t : IsTimed first meta)
    → IsWholeTime (in_second (fraction_of first)) (time_of (stamp_in t.units meta.interface)) (pos t.seconds) t.rest
whole first meta t =
    let d = in_second (fraction_of first) in
    let a = stamp_in t.units meta.interface in
    subst (λ (w : Option (ℤ × ℕ)). MatchOption w (IsNeverWhole d (time_of a))
    (λ w. IsWholeTime d (time_of a) w.0 w.1)) t.time
    (whole_of_pair d a (in_second_positive (fraction_of first)))

-- it is the time of that many units
same_time : (unit : Fraction) (h : PcapHeader) → h.unit ≡ unit → (a : Stamp) (s n : ℕ)
    → IsWholeTime (in_second unit) (time_of a) (pos s) n
    → stamp_cmp a (stamp_in (s * in_second unit + n) (interface_of h)) ≡ Equal
unfolding stamp_cmp
same_time unit h is a s n w =
    let d = in_second unit in
    let units = s * d + n in
    let whole : units / d ≡ s = div-mul-add s d n w.below in
    let resolution : d ≡ units_of (interface_of h).resolution = sym (units_of-unit h.unit ∙ ap in_second is) in
    let later : time_of (stamp_in units (interface_of h)) ≡ time_at n d (pos s) =
    time_of-stamp_in units (interface_of h)
    ∙ sym (time_at-stamped (pos 0) (pos s) units d (units_of (interface_of h).resolution) resolution
    (omega (arith, ints, whole)))
    ∙ ap (λ (x : ℕ). time_at x d (pos s)) (mod-mul-add s d n w.below) in
    ap (λ (t : Time). time_cmp (time_of a) t) later ∙ w.same

-- ---- packets

-- a packet in the form in which it is written
abbrev units_in : Fraction → Option (ℤ × ℕ) → ℕ
units_in unit None = 0
units_in unit (Some time) = nat_abs time.0 * in_second unit + time.1

abbrev form_of : Interface → Meta → List ℕ → Packet
form_of first meta frame = record {
  units = units_in (fraction_of first) (written_time first meta);
  original =
      meta.original;
  frame = frame;
}

abbrev forms_of : Interface → List Item → List Packet
forms_of first [] = []
forms_of first (packet meta frame ∷ items) = form_of first meta frame ∷ forms_of first items
forms_of first (refused refusal ∷ items) = []

written_is : (first : Interface) (meta : Meta) (t : IsTimed first meta)
    → written_time first meta ≡ Some (pos t.seconds, t.rest)
written_is first meta t = ap (whole_time_in (fraction_of first) meta.interface) t.is ∙ t.time

units_are : (first : Interface) (meta : Meta) (t : IsTimed first meta)
    → units_in (fraction_of first) (written_time first meta) ≡ t.seconds * in_second (fraction_of first) + t.rest
units_are first meta t = ap (units_in (fraction_of first)) (written_is first meta t)

line_is : (order : Order) (first : Interface) (meta : Meta) (frame : List ℕ) (t : IsTimed first meta)
    → packet_record order first meta frame ≡ record_form order (fraction_of first) (form_of first meta frame)
line_is order first meta frame t =
    let d = in_second (fraction_of first) in
    let units = units_are first meta t in
    let below = (whole first meta t).below in
    let quotient : units_in (fraction_of first) (written_time first meta) / d ≡ t.seconds = ap (λ u. u / d) units
    ∙ div-mul-add t.seconds d t.rest below in
    let remainder : units_in (fraction_of first) (written_time first meta) % d ≡ t.rest = ap (λ u. u % d) units
    ∙ mod-mul-add t.seconds d t.rest below in
    ap (λ w. time_bytes order w meta.original frame) (written_is first meta t)
    ∙ (λ i. record_bytes order (sym quotient i) (sym remainder i) meta.original frame)

-- a packet that isn't refused, and those after it
record Goes (first : Interface) (meta : Meta) (items : List Item) : Type 0 where
  unrefused : written_record_fault first meta ≡ None
  rest : records_refusal first items ≡ None

goes : (first : Interface) (meta : Meta) (frame : List ℕ) (items : List Item)
    → records_refusal first (packet meta frame ∷ items) ≡ None → Goes first meta items
unfolding records_refusal
goes first meta frame items none = grind arith

refuses : (first : Interface) (refusal : Refusal) (items : List Item)
    → records_refusal first (refused refusal ∷ items) ≡ Some refusal
unfolding records_refusal
refuses first refusal items = refl

never_refused : {A : Type 0} (first : Interface) (refusal : Refusal) (items : List Item)
    → records_refusal first (refused refusal ∷ items) ≡ None → A
never_refused first refusal items none = absurd (none-some refusal (sym none ∙ refuses first refusal items))

-- what is written of the packets of a file
records-are : (order : Order) (first : Interface) (items : List Item) → records_refusal first items ≡ None
    → records_bytes order first items ≡ records_form order (fraction_of first) (forms_of first items)
unfolding records_bytes
records-are order first (packet meta frame ∷ items) none =
    let g = goes first meta frame items none in
    ap (λ f. text_or f (packet_record order first meta frame ++ records_bytes order first items)) g.unrefused
    ∙ (λ i. line_is order first meta frame (timed first meta g.unrefused) i ++ records-are order first items g.rest i)
records-are order first items none = grind (arith, never_refused)

all-written : (first : Interface) (items : List Item) → AllByRecursion ItemFits items
    → records_refusal first items ≡ None
    → AllWritten (fraction_of first) (forms_of first items)
all-written first (packet meta frame ∷ items) fit none =
    let g = goes first meta frame items none in
    let t = timed first meta g.unrefused in
    let d = in_second (fraction_of first) in
    let quotient : units_in (fraction_of first) (written_time first meta) / d ≡ t.seconds =
    ap (λ u. u / d) (units_are first meta t) ∙ div-mul-add t.seconds d t.rest (whole first meta t).below in (
      omega (arith, quotient, t.few),
      fit.0.original,
      omega (arith, fit.0.frame.captured, fit.0.frame.limit),
      all-written first items fit.1 g.rest,
    )
all-written first items fit none = grind (arith, never_refused)

-- and what they are when they are read again
same_packet : (order : Order) (first : Interface) (file offset : ℕ) (meta : Meta) (frame : List ℕ) → IsTimed first meta
    → length frame ≡ meta.captured
    → IsSamePacket meta (meta_of file (interface_of (header_of order first))
    (record_of offset (form_of first meta frame))) frame frame
same_packet order first file offset meta frame t captured =
    let h = header_of order first in
    record {
      link = t.link;
      time =
          ap (λ u. clock_cmp u (Some (stamp_in (units_in (fraction_of first) (written_time first meta))
          (interface_of h))))
          (ap (λ u. time_of_units u) t.is)
          ∙ (ap (λ u. stamp_cmp (stamp_in t.units meta.interface) (stamp_in u (interface_of h)))
          (units_are first meta t)
          ∙ same_time (fraction_of first) h refl (stamp_in t.units meta.interface) t.seconds t.rest
          (whole first meta t));
      captured = sym captured;
      original = refl;
      frame = refl;
    }
  where
    time_of_units : Option ℕ → Option Stamp
    time_of_units u = option_map (λ units. stamp_in units meta.interface) u

same_packets : (order : Order) (first : Interface) (file offset : ℕ) (items : List Item) → AllByRecursion ItemFits items
    → records_refusal first items ≡ None
    → AllZip SamePackets items (pcap_items file (interface_of (header_of order first))
    (record_items_with offset (forms_of first items) stops.End))
unfolding pcap_items
same_packets order first file offset [] fit none = tt
same_packets order first file offset (refused refusal ∷ items) fit none = never_refused first refusal items none
same_packets order first file offset (packet meta frame ∷ items) fit none =
    let g = goes first meta frame items none in (
      same_packet order first file offset meta frame (timed first meta g.unrefused) fit.0.frame.captured,
      same_packets order first file (offset + packet_size (form_of first meta frame)) items fit.1 g.rest,
    )

-- nothing has no interface
no_bytes : (tail : Tail) (file : ℕ) → file_first tail file [] ≡ None
unfolding first_from records.pcap_header_fault
no_bytes tail file = refl

pub pcap_again-law : PcapAgain
pcap_again-law order unit tail tail_again file file_again bytes are =
    by (first_in_unit unit (file_first tail file bytes)) refl
  where
    by : (first : Option Interface) → first_in_unit unit (file_first tail file bytes) ≡ first
        → (let items = file_items tail file bytes in
        let text = pcap_bytes order first items in
        (file_first tail_again file_again text ≡ option_map written_first first)
        × (pcap_refusal file first items ≡ None → length text ≤ 2 ^ 40
        → AllZip SamePackets items (file_items tail_again file_again text)))
    by None is = (
      no_bytes tail_again file_again,
      λ none limit. absurd
          (none-some (bare_refusal file (file_items tail file bytes)) (sym none)),
    )
    by (Some first) is =
        let items = file_items tail file bytes in
        let h = header_of order first in
        let ps = forms_of first items in
        let made = made-of unit (file_first tail file bytes) first is in
        let fits = (first-of tail file bytes made.0 are made.1).fits in
        let snaplen = subst (λ (n : ℕ). n < 2 ^ 32) made.2.snaplen fits.snaplen in
        let link = subst (λ (n : ℕ). n < 2 ^ 16) made.2.link fits.link in
        let fit = fields_fit-law tail file bytes are in (
          first-header tail_again file_again h (records_bytes order first items) snaplen link,
          λ none limit.
              let text : pcap_bytes order (Some first) items ≡ header_bytes h
              ++ records_form order (fraction_of first) ps =
              ap (λ l. header_bytes h ++ l) (records-are order first items none) in
              let read = items-written tail_again file_again h ps snaplen link
              (all-written first items fit none)
              (subst (λ l. length l ≤ 2 ^ 40) text limit) in
              subst (λ (l : List Item). AllZip SamePackets items l)
              (sym (ap (file_items tail_again file_again) text ∙ read))
              (same_packets order first file_again 24 items fit none),
        )
