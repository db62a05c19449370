-- Lists of packets that are written alike, if nothing is refused, have the same packets but for what is reported of
-- files.
use Rattle.std.proofs.Common.{arith, ◌≡◌, ℕ, Bool, false, List, [], ◌∷◌, refl, Option, Some, None}
use Rattle.std.specs.List.{AllZip}
use Rattle.std.specs.Prelude.{is_none, unwrap_or, if◌then◌else◌}
use Rattle.cap_bytes.specs.declared.faults.Refusal.{Refusal}
use Rattle.cap_bytes.specs.declared.faults.Rule.TheVariants.{NoTime, InterfaceLimit}
use Rattle.cap_source.specs.Feed.{Item, packet, refused, refusal_of}
use Rattle.cap_source.specs.declared.packets.Meta.{Meta}
use Rattle.cap_write.specs.Numbering.{Origins, with_origin, is_full, write_fault, numbered, numbered_of, refusal_in}

-- Two packets have the same interface, units, lengths and bytes.
pub record IsTwin (m n : Meta) (f g : List ℕ) : Type 0 where
  pub interface : m.interface ≡ n.interface
  pub units : m.units ≡ n.units
  pub captured : m.captured ≡ n.captured
  pub original : m.original ≡ n.original
  pub frame : f ≡ g

abbrev pub TwinItems : Item → Item → Type 0
TwinItems (packet m f) (packet n g) = IsTwin m n f g
TwinItems (packet m f) (refused r) = ⊥
TwinItems (refused q) (packet n g) = ⊥
TwinItems (refused q) (refused r) = ⊥

-- a packet that isn't refused: it has a time, and is the next of those that are written
pub record Goes (origins : Origins) (meta : Meta) (frame : List ℕ) (items : List Item) : Type 0 where
  pub timed : is_none meta.units ≡ false
  pub packets : numbered origins (packet meta frame ∷ items) ≡ numbered_of origins meta frame
      ∷ numbered (with_origin origins meta) items
  pub rest : refusal_in (with_origin origins meta) items ≡ None

timed_by : (b full : Bool) → (if b then Some NoTime else (if full then Some InterfaceLimit else None))
    ≡ None → b ≡ false
timed_by b full e = grind arith

time_of : (origins : Origins) (meta : Meta) → write_fault origins meta ≡ None → is_none meta.units ≡ false
unfolding write_fault
time_of origins meta e = timed_by (is_none meta.units) (is_full origins meta) e

pub goes : (origins : Origins) (meta : Meta) (frame : List ℕ) (items : List Item)
    → refusal_in origins (packet meta frame ∷ items) ≡ None → Goes origins meta frame items
unfolding numbered refusal_in
goes origins meta frame items none = grind (arith, time_of)

same_units : (a b : Option ℕ) → is_none a ≡ false → is_none b ≡ false → unwrap_or a 0 ≡ unwrap_or b 0 → a ≡ b
same_units a b h k e = grind arith

heads : {A : Type 0} (x y : A) (xs ys : List A) → x ∷ xs ≡ y ∷ ys → (x ≡ y) × (xs ≡ ys)
heads x y xs ys e = (cc, cc)

nothing : (origins : Origins) → numbered origins [] ≡ []
unfolding numbered
nothing origins = refl

pub refuses : (origins : Origins) (r : Refusal) (items : List Item)
    → refusal_in origins (refused r ∷ items) ≡ Some r
unfolding refusal_in
refuses origins r items = refl

-- Lists of which the same packets are written, and none is refused, are such packets one by one.
pub twins : (origins others : Origins) (xs ys : List Item) → refusal_in origins xs ≡ None
    → refusal_in others ys ≡ None → numbered origins xs ≡ numbered others ys → AllZip TwinItems xs ys
twins origins others (packet m f ∷ xs) (packet n g ∷ ys) h k e =
    grind (arith, twins (with_origin origins m) (with_origin others n) xs ys, goes, heads, same_units)
twins origins others xs ys h k e = grind (arith, goes, nothing, refuses)

-- if each packet is written, the file isn't refused
pub unrefused : (origins : Origins) (items : List Item) → refusal_in origins items ≡ None → refusal_of items ≡ None
unfolding refusal_in refusal_of
unrefused origins (packet meta frame ∷ items) none = grind (arith, unrefused (with_origin origins meta) items)
unrefused origins items none = cc
