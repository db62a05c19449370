-- The interfaces that a file describes, and what is written of a packet by them.
use Rattle.std.proofs.Common.{◌≡◌, ◌≤◌, ◌<◌, ◌∷◌, ◌++◌, [], ℕ, List, Bool, true, false, length, map, Some, None, refl}
use Rattle.std.proofs.Common.{Option, Result, Ok, Err, arith, sym, ap, ◌∙◌, subst}
use Rattle.std.proofs.lemmas.List.{length-map, map-append, take_all}
use Rattle.std.proofs.Math.ListN.{get_or-map}
use Rattle.std.proofs.lemmas.List.Sums.{position_or_len_is}
use Rattle.std.specs.List.{position_or_len}
use Rattle.std.specs.Prelude.{get_or, nat_le, IsFalse, IsOkUnless, OnOk}
use Rattle.cap_bytes.proofs.Putting.{Prints-behind, Prints-head}
use Rattle.cap_bytes.specs.Device.{Puts}
use Rattle.cap_bytes.specs.Printing.{Prints}
use Rattle.cap_bytes.specs.declared.faults.Fault.{Fault}
use Rattle.cap_bytes.specs.declared.faults.Fault.TheVariants.{Refused, Read, Write, Memory}
use Rattle.cap_bytes.specs.declared.faults.Refusal.{Refusal}
use Rattle.cap_bytes.specs.declared.faults.Rule.TheVariants.{InterfaceLimit}
use Rattle.cap_bytes.specs.declared.numbers.Order.{Order}
use Rattle.cap_blocks.specs.Grammar.{interface_bytes, packet_bytes}
use Rattle.cap_source.specs.declared.packets.Meta.{Meta}
use Rattle.cap_time.specs.declared.resolutions.Interface.{Interface}
use Rattle.cap_write.proofs.Places.{position_or_len-none, position_or_len-some}
use Rattle.cap_write.specs.Numbering.{Origins, description_of, is_description, is_used, number_of, refusal_by, shared}
use Rattle.cap_write.specs.Numbering.{with_origin, write_fault}
use Rattle.cap_write.specs.Texts.{one_bytes}

abbrev pub Shared : List Interface → Origins
Shared list = shared (map description_of list)

-- ---- whether an interface was described

pub unused : (list : List Interface) (meta : Meta)
    → position_or_len (is_description (description_of meta.interface)) (map description_of list) ≡ length list
    → is_used (Shared list) meta ≡ false
unused list meta is = by (is_used (Shared list) meta) refl
  where
    by : (b : Bool) → is_used (Shared list) meta ≡ b → is_used (Shared list) meta ≡ false
    by false is_not = is_not
    by true found = absurd (omega (
      arith,
      is,
      length-map list description_of,
      position_or_len-some (is_description (description_of meta.interface)) (map description_of list) found,
    ))

pub used : (list : List Interface) (meta : Meta)
    → (position_or_len (is_description (description_of meta.interface)) (map description_of list) ≡ length list → ⊥)
    → is_used (Shared list) meta ≡ true
used list meta other = by (is_used (Shared list) meta) refl
  where
    by : (b : Bool) → is_used (Shared list) meta ≡ b → is_used (Shared list) meta ≡ true
    by true found = found
    by false is_not = absurd (other (
        position_or_len-none (is_description (description_of meta.interface)) (map description_of list) is_not
        ∙ length-map list description_of
        ))

pub is-new : (list : List Interface) (meta : Meta) → IsFalse (is_used (Shared list) meta)
    → is_used (Shared list) meta ≡ false
is-new list meta new = new

-- the first that is the same has that number
pub first-same : (list : List Interface) (interface default : Interface) (number : ℕ) → number ≤ length list
    → ((k : ℕ) (d : Interface) → k < number
    → is_description (description_of interface) (description_of (get_or list k d)) ≡ false)
    → (number < length list → is_description (description_of interface) (description_of (get_or list number default))
    ≡ true)
    → number ≡ position_or_len (is_description (description_of interface)) (map description_of list)
first-same list interface default number most before there =
    let same = is_description (description_of interface) in
    sym (position_or_len_is same (map description_of list) number (description_of default)
    (omega (arith, most, length-map list description_of))
    (λ k less. ap same (get_or-map description_of list k default) ∙ before k default less)
    (λ less. ap same (get_or-map description_of list number default)
    ∙ there (omega (arith, less, length-map list description_of))))

-- ---- what refuses a packet with a time

pub fault-full : (list : List Interface) (meta : Meta) (units : ℕ) → meta.units ≡ Some units
    → nat_le 1024 (length list) ≡ true → is_used (Shared list) meta ≡ false
    → write_fault (Shared list) meta ≡ Some InterfaceLimit
unfolding write_fault
fault-full list meta units timed full new = grind (arith, length-map)

pub fault-room : (list : List Interface) (meta : Meta) (units : ℕ) → meta.units ≡ Some units
    → nat_le 1024 (length list) ≡ false → write_fault (Shared list) meta ≡ None
unfolding write_fault
fault-room list meta units timed room = grind (arith, length-map)

pub fault-used : (list : List Interface) (meta : Meta) (units : ℕ) → meta.units ≡ Some units
    → is_used (Shared list) meta ≡ true → write_fault (Shared list) meta ≡ None
unfolding write_fault
fault-used list meta units timed known = grind arith

-- ---- what is written

pub one-new : (order : Order) (list : List Interface) (meta : Meta) (frame : List ℕ) (units : ℕ)
    → meta.units ≡ Some units → write_fault (Shared list) meta ≡ None → is_used (Shared list) meta ≡ false
    → one_bytes order (Shared list) meta frame
    ≡ interface_bytes order meta.interface ++ packet_bytes order (length list) units meta.original frame
one-new order list meta frame units timed none new =
    let is = position_or_len-none (is_description (description_of meta.interface)) (map description_of list) new in
    grind (arith, length-map, is)

pub one-used : (order : Order) (list : List Interface) (meta : Meta) (frame : List ℕ) (units : ℕ)
    → meta.units ≡ Some units → write_fault (Shared list) meta ≡ None → is_used (Shared list) meta ≡ true
    → one_bytes order (Shared list) meta frame
    ≡ packet_bytes order (number_of (Shared list) meta) units meta.original frame
one-used order list meta frame units timed none known =
    let less = position_or_len-some (is_description (description_of meta.interface)) (map description_of list) known in
    grind (arith, length-map, less)

-- ---- the interfaces after it

pub with-new : (list : List Interface) (meta : Meta) → is_used (Shared list) meta ≡ false
    → Shared (list ++ meta.interface ∷ []) ≡ with_origin (Shared list) meta
with-new list meta new = grind (arith, map-append)

pub with-used : (list : List Interface) (meta : Meta) → is_used (Shared list) meta ≡ true
    → Shared list ≡ with_origin (Shared list) meta
with-used list meta known = grind arith

pub OnOk-always : {E A : Type 0} (result : Result A E) (P : Type 0) → P → OnOk result P
OnOk-always result P p = grind arith

-- ---- a text that was written

-- what was put is what is written
pub Prints-put : (text held new : List ℕ) (refusal : Option Refusal)
    (result : Result (Unit {0}) Fault) → refusal ≡ None → IsOkUnless result Write → Puts held result new text
    → Prints text refusal held result new
Prints-put text held new refusal (Ok u) none fault puts = (none, puts)
Prints-put text held new refusal (Err Write) none fault puts = puts
Prints-put text held new refusal (Err (Refused r)) none fault puts = grind arith
Prints-put text held new refusal (Err (Read file offset)) none fault puts = puts
Prints-put text held new refusal (Err Memory) none fault puts = puts

-- an interface and its packet, as far as they were written
pub Prints-new : (order : Order) (list : List Interface) (meta : Meta) (frame held mid new : List ℕ)
    (number units original : ℕ) (result : Result (Unit {0}) Fault) → meta.units ≡ Some units
    → write_fault (Shared list) meta ≡ None → is_used (Shared list) meta ≡ false → number ≡ length list
    → original ≡ meta.original → mid ≡ held ++ interface_bytes order meta.interface
    → Prints (packet_bytes order number units original frame) (refusal_by meta (write_fault (Shared list) meta)) mid
    result new
    → Prints (one_bytes order (Shared list) meta frame) (refusal_by meta (write_fault (Shared list) meta)) held result
    new
Prints-new order list meta frame held mid new number units original result timed none fresh is same first rest =
    let refusal = refusal_by meta (write_fault (Shared list) meta) in
    subst (λ text. Prints text refusal held result new)
    (ap (λ n. interface_bytes order meta.interface ++ packet_bytes order n units original frame) is
    ∙ (ap (λ o. interface_bytes order meta.interface ++ packet_bytes order (length list) units o frame) same
    ∙ sym (one-new order list meta frame units timed none fresh)))
    (Prints-behind refusal held mid new (interface_bytes order meta.interface)
    (packet_bytes order number units original frame) result first rest)

pub Prints-new-head : (order : Order) (list : List Interface) (meta : Meta) (frame held new : List ℕ) (units : ℕ)
    (fault : Fault) → meta.units ≡ Some units → write_fault (Shared list) meta ≡ None
    → is_used (Shared list) meta ≡ false → fault ≡ Write
    → Puts {A = Unit {0}} held (Err fault) new (interface_bytes order meta.interface)
    → Prints {A = Unit {0}} (one_bytes order (Shared list) meta frame)
    (refusal_by meta (write_fault (Shared list) meta)) held (Err fault) new
Prints-new-head order list meta frame held new units fault timed none fresh is puts =
    let refusal = refusal_by meta (write_fault (Shared list) meta) in
    subst (λ text. Prints {A = Unit {0}} text refusal held (Err fault) new)
    (sym (one-new order list meta frame units timed none fresh))
    (Prints-head refusal held new (interface_bytes order meta.interface)
    (packet_bytes order (length list) units meta.original frame) fault is puts)

-- the same if all was written, whether or not there was memory after it
pub Prints-all : (text held new : List ℕ) (refusal : Option Refusal)
    (result : Result (Unit {0}) Fault) → refusal ≡ None → IsOkUnless result Memory → new ≡ held ++ text
    → Prints text refusal held result new
Prints-all text held new refusal (Ok u) none fault is = (none, is)
Prints-all text held new refusal (Err Memory) none fault is =
    (length text, is ∙ ap (λ t. held ++ t) (sym (take_all (length text) text (omega arith))))
Prints-all text held new refusal (Err (Refused r)) none fault is = grind arith
Prints-all text held new refusal (Err (Read file offset)) none fault is = grind arith
Prints-all text held new refusal (Err Write) none fault is = grind arith
