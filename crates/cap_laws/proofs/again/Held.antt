-- What is written for the packets of a pcap file, read again.
use Rattle.std.proofs.Common.{◌≡◌, ℕ, ◌+◌, ◌*◌, ◌/◌, ◌%◌, ◌^◌, ◌≤◌, ◌<◌, List, [], ◌∷◌, length, Bool, refl, subst}
use Rattle.std.proofs.Common.{arith, length-append, if◌then◌else◌}
use Rattle.std.proofs.lemmas.Bool.{ltb-true}
use Rattle.std.specs.Prelude.{FitsSigned}
use Rattle.std.specs.Int.{w64}
use Rattle.cap_bytes.specs.declared.faults.Tail.{Tail}
use Rattle.cap_bytes.specs.declared.numbers.Order.{Order}
use Rattle.cap_pcap.proofs.Again.{record_again-law}
use Rattle.cap_pcap.proofs.Items.{items_from-none}
use Rattle.cap_pcap.proofs.Splitting.{record_read-law, length-spelled}
use Rattle.cap_pcap.specs.Grammar.{Packet, SpellsRecord, record_bytes}
use Rattle.cap_pcap.specs.Split.{record_items_with, record_items_from}
use Rattle.cap_pcap.specs.declared.headers.PcapHeader.{PcapHeader}
use Rattle.cap_bytes.specs.declared.stops.Stop.TheVariants as stops
use Rattle.cap_source.proofs.Fields.{AllHeld}
use Rattle.cap_time.specs.Unit.{in_second}
use Rattle.cap_time.specs.declared.resolutions.Interface.{Interface}
use Rattle.cap_time.specs.declared.stamps.Unit.{Unit as Fraction}
use Rattle.cap_laws.proofs.again.Out.{fits, early}
use Rattle.cap_laws.proofs.again.Packed.{number_all}
use Rattle.cap_laws.specs.again.Laws.{AllFit, records_form, AllWritten}

-- their fields fit, as they are numbered
pub AllFit-held : (i : Interface) (ps : List Packet) → i.link < 2 ^ 16 → i.snaplen < 2 ^ 32 → FitsSigned w64 i.offset
    → AllHeld ps → AllFit (number_all i ps)
AllFit-held i [] link snaplen offset held = tt
AllFit-held i (p ∷ ps) link snaplen offset held = grind (arith, AllFit-held i ps link snaplen offset held.3)

-- A packet is read again if its seconds fit.
same_units : (d : ℕ) (p : Packet)
    → record { units = p.units / d * d + p.units % d; original = p.original; frame = p.frame } ≡ p
same_units d p = grind arith

below_second : (unit : Fraction) (u : ℕ) → u % in_second unit < 2 ^ 32
below_second unit u = grind arith

spelled-again : (order : Order) (unit : Fraction) (p : Packet) → p.units / in_second unit < 2 ^ 32 → p.original < 2 ^ 32
    → length p.frame ≤ 262144
    → SpellsRecord order unit p (record_bytes order (p.units / in_second unit)
    (p.units % in_second unit) p.original p.frame)
spelled-again order unit p seconds original frame =
    subst (λ q. SpellsRecord order unit q (record_bytes order (p.units / in_second unit)
    (p.units % in_second unit) p.original p.frame))
    (same_units (in_second unit) p)
    (record_again-law order unit (p.units / in_second unit) (p.units % in_second unit) p.original p.frame seconds
    (below_second unit p.units) original frame)

-- The packets of a written text whose seconds fit are read again.
pub records-again : (h : PcapHeader) (tail : Tail) (file offset : ℕ) (ps : List Packet) → AllHeld ps
    → offset + length (records_form h.order h.unit (early h.unit ps)) ≤ 2 ^ 40
    → record_items_from h tail file offset (records_form h.order h.unit (early h.unit ps))
    ≡ record_items_with offset (early h.unit ps) stops.End
records-again h tail file offset [] held limit = items_from-none h tail file offset
records-again h tail file offset (p ∷ ps) held limit =
    by (fits h.unit p) refl (λ offset limit. records-again h tail file offset ps held.3 limit) limit
  where
    by : (b : Bool) → fits h.unit p ≡ b
        → ((offset : ℕ) → offset + length (records_form h.order h.unit (early h.unit ps)) ≤ 2 ^ 40
        → record_items_from h tail file offset (records_form h.order h.unit (early h.unit ps))
        ≡ record_items_with offset (early h.unit ps) stops.End)
        → offset + length (records_form h.order h.unit (if fits h.unit p then p ∷ early h.unit ps else [])) ≤ 2 ^ 40
        → record_items_from h tail file offset (records_form h.order h.unit
        (if fits h.unit p then p ∷ early h.unit ps else []))
        ≡ record_items_with offset (if fits h.unit p then p ∷ early h.unit ps else []) stops.End
    by b is later few = grind (
      arith,
      records_form,
      spelled-again,
      ltb-true,
      length-spelled,
      record_read-law,
      length-append,
      items_from-none,
    )

pub held-written : (unit : Fraction) (ps : List Packet) → AllWritten unit ps → AllHeld ps
held-written unit [] w = tt
held-written unit (p ∷ ps) w = grind (arith, held-written unit ps w.3)

pub early-written : (unit : Fraction) (ps : List Packet) → AllWritten unit ps → early unit ps ≡ ps
early-written unit [] w = refl
early-written unit (p ∷ ps) w = grind (arith, early-written unit ps w.3)
