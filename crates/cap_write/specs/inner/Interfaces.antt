-- What a call for the number of a packet's interface returns.
use Rattle.std.specs.Prelude.{◌≡◌, ◌&&◌, not, ℕ, nat_le, Bool, true, false, List, [], ◌∷◌, length, ⊤, Some, None}
use Rattle.std.specs.Prelude.{Result, Ok, Err}
use Rattle.std.specs.List.{list_any, position_or_len}
use Rattle.indexmap.specs.IndexSet.{insert_key}
use Rattle.cap_bytes.specs.declared.faults.Fault.{Fault}
use Rattle.cap_bytes.specs.declared.faults.Fault.TheVariants.{Refused, Read, Write, Memory}
use Rattle.cap_bytes.specs.declared.faults.Rule.{Rule}
use Rattle.cap_bytes.specs.declared.faults.Rule.TheVariants.{InterfaceLimit, NoTime}
use Rattle.cap_source.specs.declared.packets.Meta.{Meta}
use Rattle.cap_write.specs.Numbering.{Origins, own, shared, number_of, with_origin, write_fault, refusal_at}
use Rattle.cap_write.specs.declared.interfaces.Origins.{Origins as Tables}
use Rattle.cap_write.specs.declared.interfaces.Origins.TheVariants as tables

-- the interfaces that a table has
abbrev pub origins_of : Tables → Origins
origins_of (tables.Own origins) = own origins.keys
origins_of (tables.Shared descriptions) = shared descriptions.keys

-- whether a key is the first of those that were used, and whether it would be the 1,025th
abbrev pub is_leading : {K : Type 0} → (K → K → Bool) → List K → K → Bool
is_leading same [] key = false
is_leading same (first ∷ keys) key = same key first

abbrev pub is_beyond : {K : Type 0} → (K → K → Bool) → List K → K → Bool
is_beyond same keys key = nat_le 1024 (length keys) && not (list_any (same key) keys)

-- A key has that number among those that were used, and is one of them; or its packet is refused; or there was no
-- memory for a number that it would have had.
abbrev pub NumbersKey : {K : Type 0} → (K → K → Bool) → K → Meta → List K → Result ℕ Fault → List K → Type 0
NumbersKey same key meta old (Ok number) new =
    (is_beyond same old key ≡ false) × (number ≡ position_or_len (same key) old) × (new ≡ insert_key same old key)
NumbersKey same key meta old (Err (Refused refusal)) new =
    (is_beyond same old key ≡ true) × (refusal ≡ refusal_at meta InterfaceLimit) × (new ≡ old)
NumbersKey same key meta old (Err (Read file offset)) new = ⊥
NumbersKey same key meta old (Err Write) new = ⊥
NumbersKey same key meta old (Err Memory) new = (new ≡ old) × (is_beyond same old key ≡ false)

-- The packet is written with that number; or it is refused; or there was no memory for a number that it would have had.
abbrev pub Numbers : Meta → Origins → Result ℕ Fault → Origins → Type 0
Numbers meta old (Ok number) new =
    (write_fault old meta ≡ None) × (number ≡ number_of old meta) × (new ≡ with_origin old meta)
Numbers meta old (Err (Refused refusal)) new =
    (rule : Rule) × (write_fault old meta ≡ Some rule) × (refusal ≡ refusal_at meta rule) × (new ≡ old)
Numbers meta old (Err (Read file offset)) new = ⊥
Numbers meta old (Err Write) new = ⊥
Numbers meta old (Err Memory) new = (new ≡ old) × (write_fault old meta ≡ None)

-- The packet has that time, or is refused because it has none.
abbrev pub HasUnits : Meta → Result ℕ Fault → Type 0
HasUnits meta (Ok units) = meta.units ≡ Some units
HasUnits meta (Err (Refused refusal)) = (meta.units ≡ None) × (refusal ≡ refusal_at meta NoTime)
HasUnits meta (Err (Read file offset)) = ⊥
HasUnits meta (Err Write) = ⊥
HasUnits meta (Err Memory) = ⊥

-- A table of those origins was made, or there was no memory.
abbrev pub Holds : {S : Type 0} → (S → Origins) → Origins → Result S Fault → Type 0
Holds origins_of origins (Ok table) = origins_of table ≡ origins
Holds origins_of origins (Err (Refused refusal)) = ⊥
Holds origins_of origins (Err (Read file offset)) = ⊥
Holds origins_of origins (Err Write) = ⊥
Holds origins_of origins (Err Memory) = ⊤
