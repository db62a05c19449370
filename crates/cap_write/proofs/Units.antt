-- Interfaces in the unit of time that is asked for.
use Rattle.std.proofs.Common.{◌≡◌, List, [], ◌∷◌, ◌++◌, ℕ, Option, Some, None, refl, ap, arith}
use Rattle.cap_bytes.specs.declared.numbers.Order.{Order}
use Rattle.cap_pcap.specs.Grammar.{header_bytes}
use Rattle.cap_source.specs.Feed.{Item, packet, refused}
use Rattle.cap_source.specs.declared.packets.Meta.{Meta}
use Rattle.cap_time.specs.Code.{units_of_code}
use Rattle.cap_time.specs.declared.resolutions.Interface.{Interface}
use Rattle.cap_time.specs.declared.stamps.Unit.{Unit as Fraction}
use Rattle.cap_time.specs.declared.stamps.Unit.TheVariants.{Micro, Nano}
use Rattle.cap_write.specs.Numbering.{refusal_or}
use Rattle.cap_write.specs.Pcap.{first_in_unit, fraction_of, header_of, in_unit, packet_record, pcap_bytes}
use Rattle.cap_write.specs.Pcap.{records_bytes, records_refusal, written_record_fault}
use Rattle.cap_write.specs.Texts.{text_or}
use Rattle.cap_write.specs.Units.{AskedUnit, OwnUnit}

-- a first interface in it, if there is one
pub first-some : (unit : Option Fraction) (first : Interface) → first_in_unit unit (Some first)
    ≡ Some (in_unit unit first)
first-some None first = refl
first-some (Some unit) first = refl

pub first-none : (unit : Option Fraction) → first_in_unit unit None ≡ None
first-none None = refl
first-none (Some unit) = refl

-- what is written with it
pub text-some : (unit : Option Fraction) (order : Order) (first : Interface) (items : List Item)
    → pcap_bytes order (first_in_unit unit (Some first)) items
    ≡ header_bytes (header_of order (in_unit unit first)) ++ records_bytes order (in_unit unit first) items
text-some None order first items = refl
text-some (Some unit) order first items = refl

pub text-none : (unit : Option Fraction) (order : Order) (items : List Item)
    → pcap_bytes order (first_in_unit unit None) items ≡ []
text-none None order items = refl
text-none (Some unit) order items = refl

-- what a first interface in it is made of
pub record MadeOf (first made : Interface) : Type 0 where
  pub link : first.link ≡ made.link
  pub snaplen : first.snaplen ≡ made.snaplen

pub made-of : (unit : Option Fraction) (first : Option Interface) (made : Interface)
    → first_in_unit unit first ≡ Some made → (own : Interface) × (first ≡ Some own) × MadeOf own made
made-of None (Some own) made is =
    let same : own ≡ made = cc in
    (own, refl, record { link = ap (λ (i : Interface). i.link) same; snaplen = ap (λ (i : Interface). i.snaplen) same })
made-of (Some unit) (Some own) made is =
    let same : in_unit (Some unit) own ≡ made = cc in
    (own, refl, record { link = ap (λ (i : Interface). i.link) same; snaplen = ap (λ (i : Interface). i.snaplen) same })
made-of None None made is = absurd (cc)
made-of (Some unit) None made is = absurd (cc)

-- a header has the unit that is asked for
pub fraction-asked : (unit : Fraction) (first : Interface) → fraction_of (in_unit (Some unit) first) ≡ unit
unfolding units_of_code
fraction-asked Micro first = grind arith
fraction-asked Nano first = grind arith

pub asked-unit : AskedUnit
asked-unit order unit first =
    ap (λ u. record { order = order; unit = u; snaplen = first.snaplen; link = first.link }) (fraction-asked unit first)

-- the records after two interfaces of the same link and unit are the same
record Alike (first other : Interface) : Type 0 where
  link : first.link ≡ other.link
  fraction : fraction_of first ≡ fraction_of other

same-fault : (first other : Interface) (meta : Meta) → Alike first other
    → written_record_fault first meta ≡ written_record_fault other meta
unfolding written_record_fault
same-fault first other meta a = rw (a.link, a.fraction) refl

same-record : (order : Order) (first other : Interface) (meta : Meta) (frame : List ℕ) → Alike first other
    → packet_record order first meta frame ≡ packet_record order other meta frame
same-record order first other meta frame a = rw a.fraction refl

same-bytes : (order : Order) (first other : Interface) (items : List Item) → Alike first other
    → records_bytes order first items ≡ records_bytes order other items
unfolding records_bytes
same-bytes order first other [] a = refl
same-bytes order first other (refused refusal ∷ items) a = refl
same-bytes order first other (packet meta frame ∷ items) a =
    λ i. text_or (same-fault first other meta a i)
    (same-record order first other meta frame a i ++ same-bytes order first other items a i)

same-refusal : (first other : Interface) (items : List Item) → Alike first other
    → records_refusal first items ≡ records_refusal other items
unfolding records_refusal
same-refusal first other [] a = refl
same-refusal first other (refused refusal ∷ items) a = refl
same-refusal first other (packet meta frame ∷ items) a =
    λ i. refusal_or (same-fault first other meta a i) meta (same-refusal first other items a i)

-- so the unit that a file has anyway changes nothing
pub own-unit : OwnUnit
own-unit order first items =
    let alike : Alike (in_unit (Some (fraction_of first)) first) first =
    record { link = refl; fraction = fraction-asked (fraction_of first) first } in
    let header = asked-unit order (fraction_of first) first in (
      λ i. header_bytes (header i)
          ++ same-bytes order (in_unit (Some (fraction_of first)) first) first items alike i,
      same-refusal (in_unit (Some (fraction_of first)) first) first items alike,
    )
