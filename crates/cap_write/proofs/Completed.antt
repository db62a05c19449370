-- The datagram that a packet completes is the one that the joiner answers.
use Rattle.std.proofs.Common.{arith, ◌≡◌, ℕ, Bool, true, false, List, [], ◌∷◌, ◌++◌, length, Option, Some, None}
use Rattle.std.proofs.Common.{if◌then◌else◌, refl, sym, ap, ◌∙◌, subst, append-nil}
use Rattle.std.specs.Prelude.{IfOk, Result, Ok, Err}
use Rattle.cap_bytes.specs.Printing.{Prints}
use Rattle.cap_bytes.specs.declared.faults.Fault.{Fault}
use Rattle.cap_bytes.specs.declared.numbers.Order.{Order}
use Rattle.cap_join.specs.Fragments.{Piece}
use Rattle.cap_join.specs.History.{Event}
use Rattle.cap_join.specs.ByteMap.{completes}
use Rattle.cap_join.specs.inner.Groups.{IsDatagramOf}
use Rattle.cap_join.specs.Joiners.{IsAnswer}
use Rattle.cap_join.specs.declared.datagrams.Datagram.{Datagram}
use Rattle.cap_join.specs.declared.datagrams.Put.{Put}
use Rattle.cap_join.specs.declared.datagrams.Put.TheVariants as puts
use Rattle.cap_source.specs.Feed.{Item, packet}
use Rattle.cap_source.specs.declared.packets.Meta.{Meta}
use Rattle.cap_time.specs.declared.stamps.Stamp.{Stamp}
use Rattle.cap_write.proofs.Forming.{Prints-untimed, no-time, stop-nothing, text-nothing}
use Rattle.cap_write.specs.inner.Interfaces.{HasUnits}
use Rattle.cap_write.specs.inner.Datagrams.{IsFilled}
use Rattle.cap_write.specs.inner.Forms.{FormState, form_after, form_behind, form_stop, form_text}
use Rattle.cap_write.specs.Joined.{Complete, complete_of, joined_of, completed, datagram_meta, items_of_packet}

-- a datagram that a joiner answered is the one that its fragments make
joined-is : (ps : List Piece) (d : Datagram) → completes ps ≡ true → IsDatagramOf d ps
    → complete_of d.header d.payload.items (length d.payload.items) ≡ joined_of ps
unfolding joined_of
joined-is ps d whole h = grind arith

-- fragments that make none yet
filled-none : (ps : List Piece) (bytes : List ℕ) → completes ps ≡ false → IsFilled (joined_of ps) false bytes
unfolding joined_of
filled-none ps bytes open_still = grind arith

pub filled-kept : (put : Put) (ps : List Piece) (bytes : List ℕ) → put ≡ puts.Kept → IsAnswer put ps
    → IsFilled (joined_of ps) false bytes
filled-kept put ps bytes is h = filled-none ps bytes (subst (λ (q : Put). IsAnswer q ps) is h)

pub joined-put : (put : Put) (d : Datagram) (ps : List Piece) → put ≡ puts.Joined d → IsAnswer put ps
    → complete_of d.header d.payload.items (length d.payload.items) ≡ joined_of ps
joined-put put d ps is h =
    let both = subst (λ (q : Put). IsAnswer q ps) is h in
    joined-is ps d both.0 both.1

-- what is to be written of a packet, by what the buffer has
pub items-timed : (place : ℕ) (events : List Event) (clock : Option Stamp) (meta : Meta) (frame : List ℕ) (units : ℕ)
    (some : Bool) (bytes : List ℕ)
    → meta.units ≡ Some units → IsFilled (completed place events clock meta frame) some bytes
    → items_of_packet place events clock meta frame
    ≡ (if some then packet (datagram_meta meta (length bytes)) bytes ∷ [] else [])
unfolding items_of_packet
items-timed place events clock meta frame units some bytes is h = grind arith

pub items-untimed : (place : ℕ) (events : List Event) (clock : Option Stamp) (meta : Meta) (frame : List ℕ)
    → meta.units ≡ None
    → items_of_packet place events clock meta frame ≡ packet meta frame ∷ []
unfolding items_of_packet
items-untimed place events clock meta frame is = cc

-- what an answer says of every list of events
pub filled-all : {E : Type 0} (result : Result Bool E) (d : Option Complete) (of : List Event → Option Complete)
    (P : List Event → Type 0) (bytes : List ℕ)
    → ((events : List Event) → P events → d ≡ of events) → IfOk result (λ some. IsFilled d some bytes)
    → IfOk result (λ some. (events : List Event) → P events → IsFilled (of events) some bytes)
filled-all result d of P bytes same h = grind arith

-- what is written of a packet's items
abbrev PrintsItems : Order → FormState → List Item → List ℕ → Result (Unit {0}) Fault → List ℕ → Type 0
PrintsItems order form items held result new =
    Prints {A = Unit {0}} (form_text order form items) (form_stop form items) held result new

-- a packet without a time is refused
pub Prints-no-time : (order : Order) (form : FormState) (place : ℕ) (events : List Event) (clock : Option Stamp)
    (meta : Meta) (frame held : List ℕ) (fault : Fault)
    → HasUnits meta (Err fault) → PrintsItems order form (items_of_packet place events clock meta frame) held
    (Err fault) held
Prints-no-time order form place events clock meta frame held fault h =
    subst (λ items. PrintsItems order form items held (Err fault) held)
    (sym (items-untimed place events clock meta frame (no-time meta fault h).0))
    (Prints-untimed order form meta frame [] held fault h)

-- a packet that completes a datagram
pub items-filled : (place : ℕ) (events : List Event) (clock : Option Stamp) (meta : Meta) (frame : List ℕ) (units : ℕ)
    (some : Bool) (bytes lent : List ℕ) (size : ℕ) (written : Meta)
    → HasUnits meta (Ok units) → some ≡ true → IsFilled (completed place events clock meta frame) some bytes
    → written ≡ datagram_meta meta size → size ≡ length bytes → lent ≡ bytes
    → items_of_packet place events clock meta frame ≡ packet written lent ∷ []
items-filled place events clock meta frame units some bytes lent size written timed filled h is counted same =
    items-timed place events clock meta frame units some bytes timed h
    ∙ (ap (λ b. if b then packet (datagram_meta meta (length bytes)) bytes ∷ [] else []) filled
    ∙ sym (λ i. packet ((is ∙ ap (datagram_meta meta) counted) i) (same i) ∷ []))

pub Prints-datagram : (order : Order) (form : FormState) (items : List Item) (written : Meta) (lent held new : List ℕ)
    (result : Result (Unit {0}) Fault)
    → items ≡ packet written lent ∷ [] → PrintsItems order form (packet written lent ∷ []) held result new
    → PrintsItems order form items held result new
Prints-datagram order form items written lent held new result is h =
    subst (λ all. PrintsItems order form all held result new) (sym is) h

pub named-datagram : (form form_new : FormState) (items : List Item) (written : Meta) (lent : List ℕ)
    → items ≡ packet written lent ∷ []
    → (form_new ≡ form_after form written) × (form_stop form (packet written lent ∷ []) ≡ None)
    → (form_new ≡ form_behind form items) × (form_stop form items ≡ None)
unfolding form_behind
named-datagram form form_new items written lent is h =
    subst (λ all. (form_new ≡ form_behind form all) × (form_stop form all ≡ None)) (sym is) h

-- a packet that completes none
pub items-none : (place : ℕ) (events : List Event) (clock : Option Stamp) (meta : Meta) (frame : List ℕ) (units : ℕ)
    (some : Bool) (bytes : List ℕ)
    → HasUnits meta (Ok units) → some ≡ false → IsFilled (completed place events clock meta frame) some bytes
    → items_of_packet place events clock meta frame ≡ []
items-none place events clock meta frame units some bytes timed unfilled h =
    items-timed place events clock meta frame units some bytes timed h
    ∙ ap (λ b. if b then packet (datagram_meta meta (length bytes)) bytes ∷ [] else []) unfilled

pub Prints-none : (order : Order) (form : FormState) (items : List Item) (held : List ℕ) → items ≡ []
    → (form_stop form items ≡ None) × (held ≡ held ++ form_text order form items)
Prints-none order form items held is = (
  ap (form_stop form) is ∙ stop-nothing order form,
  sym (append-nil held) ∙ ap (λ l. held ++ l) (sym (ap (form_text order form) is ∙ text-nothing order form)),
)

behind-nothing : (form : FormState) → form_behind form [] ≡ form
unfolding form_behind
behind-nothing form = refl

pub named-none : (order : Order) (form : FormState) (items : List Item) → items ≡ [] → (form ≡ form_behind form items)
    × (form_stop form items ≡ None)
named-none order form items is = (
  sym (ap (form_behind form) is ∙ behind-nothing form),
  ap (form_stop form) is
      ∙ stop-nothing order form,
)
