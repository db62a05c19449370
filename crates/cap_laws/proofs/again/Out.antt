-- A pcap file that was written as pcapng, written as pcap again.
use Rattle.std.proofs.Common.{◌≡◌, ℕ, ℤ, pos, ◌+◌, ◌/◌, ◌^◌, nat_lt, not, List, [], ◌∷◌, ◌++◌, length, Bool, Option}
use Rattle.std.proofs.Common.{Some, None, refl, sym, ap, ◌∙◌, arith, if◌then◌else◌}
use Rattle.std.proofs.lemmas.Bool.{eq-eqb}
use Rattle.std.specs.Prelude.{int_lt}
use Rattle.cap_bytes.specs.declared.faults.Refusal.{Refusal}
use Rattle.cap_bytes.specs.declared.faults.Rule.TheVariants.{TimeRange}
use Rattle.cap_bytes.specs.declared.numbers.Order.{Order}
use Rattle.cap_pcap.specs.Grammar.{Packet, packet_size}
use Rattle.cap_pcap.specs.Split as records
use Rattle.cap_pcap.specs.declared.headers.PcapHeader.{PcapHeader}
use Rattle.cap_bytes.specs.declared.stops.Stop.{Stop}
use Rattle.cap_time.proofs.StampForms.{seconds_of-stamp_in}
use Rattle.cap_source.specs.Items.{pcap_items, interface_of}
use Rattle.cap_source.specs.declared.packets.Meta.{Meta}
use Rattle.cap_time.specs.Unit.{in_second}
use Rattle.cap_time.specs.declared.stamps.Unit.{Unit as Fraction}
use Rattle.cap_write.specs.Numbering.{refusal_at, refusal_or}
use Rattle.cap_write.specs.Pcap.{written_record_fault, packet_record, records_bytes, records_refusal}
use Rattle.cap_write.specs.Texts.{interface_part, packet_part, count_after, text_or}
use Rattle.cap_laws.proofs.again.Packed.{number_one, number_all, keep_all}
use Rattle.cap_laws.proofs.again.Trips.{units_of-unit, fraction_of-header, whole_time-header, in_range-pos}
use Rattle.cap_laws.specs.again.Laws.{kept_packets, record_form, records_form, is_late, timely, late_in, read_items}
use Rattle.cap_laws.specs.again.Laws.{meta_again}

-- whether the seconds of a time fit
abbrev pub fits : Fraction → Packet → Bool
fits unit p = nat_lt (p.units / in_second unit) (2 ^ 32)

-- the packets before the first whose seconds don't
abbrev pub early : Fraction → List Packet → List Packet
early unit [] = []
early unit (p ∷ ps) = if fits unit p then p ∷ early unit ps else []

-- what refuses a packet that was read again, and what is written for it
fault-read : (h : PcapHeader) (meta : Meta) (p : Packet) → meta.interface ≡ interface_of h → meta.units ≡ Some p.units
    → written_record_fault (interface_of h) meta ≡ (if fits h.unit p then None else Some TimeRange)
unfolding written_record_fault
fault-read h meta p interface units = grind (arith, eq-eqb, fraction_of-header, whole_time-header, in_range-pos)

line-read : (order : Order) (h : PcapHeader) (meta : Meta) (p : Packet) → meta.interface ≡ interface_of h
    → meta.units ≡ Some p.units → meta.original ≡ p.original
    → packet_record order (interface_of h) meta p.frame ≡ record_form order h.unit p
line-read order h meta p interface units original = grind (arith, fraction_of-header, whole_time-header, pos)

text_by : (b : Bool) (line rest : List ℕ) → text_or (if b then None else Some TimeRange) (line ++ rest)
    ≡ (if b then line ++ rest else [])
text_by b line rest = grind arith

join_by : (b : Bool) (order : Order) (unit : Fraction) (p : Packet) (ps : List Packet)
    → (if b then record_form order unit p ++ records_form order unit ps else [])
    ≡ records_form order unit (if b then p ∷ ps else [])
join_by b order unit p ps = grind arith

-- what is written of the packets that were read again
pub records_bytes-read : (back : Order) (h : PcapHeader) (order : Order) (file offset count : ℕ) (ps : List Packet)
    → records_bytes back (interface_of h) (read_items order file offset count (number_all (interface_of h) ps))
    ≡ records_form back h.unit (early h.unit ps)
unfolding records_bytes read_items
records_bytes-read back h order file offset count [] = refl
records_bytes-read back h order file offset count (p ∷ ps) =
    let n = number_one (interface_of h) p in
    let place = offset + length (interface_part order count n) in
    let meta = meta_again file place n in
    let rest = records_bytes back (interface_of h)
    (read_items order file (place + length (packet_part order n)) (count_after count n)
    (number_all (interface_of h) ps)) in
    ap (λ f. text_or f (packet_record back (interface_of h) meta p.frame ++ rest)) (fault-read h meta p refl refl)
    ∙ (text_by (fits h.unit p) (packet_record back (interface_of h) meta p.frame) rest
    ∙ (ap (λ l. if fits h.unit p then l ++ rest else []) (line-read back h meta p refl refl refl)
    ∙ (ap (λ l. if fits h.unit p then record_form back h.unit p ++ l else [])
    (records_bytes-read back h order file (place + length (packet_part order n)) (count_after count n) ps)
    ∙ join_by (fits h.unit p) back h.unit p (early h.unit ps))))

-- a time is late if its seconds don't fit
is_late-header : (h : PcapHeader) (units : ℕ) → is_late (interface_of h) (Some units)
    ≡ not (nat_lt (units / in_second h.unit) (2 ^ 32))
is_late-header h units = ap (λ (z : ℤ). not (int_lt z (pos (2 ^ 32)))) (seconds_of-stamp_in units (interface_of h))
    ∙ grind (arith, pos, units_of-unit, nat_lt)

refusal_by_late : (b : Bool) (meta : Meta) (rest : Option Refusal)
    → refusal_or (if b then None else Some TimeRange) meta rest
    ≡ (if not b then Some (refusal_at meta TimeRange) else rest)
refusal_by_late b meta rest = grind arith

-- and refused
pub records_refusal-read : (h : PcapHeader) (order : Order) (file offset count : ℕ) (ps : List Packet)
    → (let read = read_items order file offset count (number_all (interface_of h) ps) in
    records_refusal (interface_of h) read ≡ late_in read)
unfolding records_refusal read_items late_in
records_refusal-read h order file offset count [] = refl
records_refusal-read h order file offset count (p ∷ ps) =
    let n = number_one (interface_of h) p in
    let place = offset + length (interface_part order count n) in
    let meta = meta_again file place n in
    let read = read_items order file (place + length (packet_part order n)) (count_after count n)
    (number_all (interface_of h) ps) in
    ap (λ f. refusal_or f meta (records_refusal (interface_of h) read)) (fault-read h meta p refl refl)
    ∙ (refusal_by_late (fits h.unit p) meta (records_refusal (interface_of h) read)
    ∙ (ap (λ r. if not (fits h.unit p) then Some (refusal_at meta TimeRange) else r)
    (records_refusal-read h order file (place + length (packet_part order n)) (count_after count n) ps)
    ∙ ap (λ b. if b then Some (refusal_at meta TimeRange) else late_in read) (sym (is_late-header h p.units))))

-- the packets before the first that is late
pub timely-packets : (h : PcapHeader) (file offset : ℕ) (ps : List Packet) (stop : Stop)
    → kept_packets (timely (pcap_items file (interface_of h) (records.record_items_with offset ps stop)))
    ≡ keep_all (interface_of h) (early h.unit ps)
unfolding timely pcap_items kept_packets
timely-packets h file offset (p ∷ ps) stop = grind
    (arith, timely-packets h file (offset + packet_size p) ps stop, timely, kept_packets, is_late-header)
timely-packets h file offset ps stop = grind arith
