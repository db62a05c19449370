-- What is written for one packet of a list.
use Rattle.std.proofs.Common.{arith, ◌≡◌, ℕ, List, [], ◌∷◌, Option, Some, None, IsTrue, Err, refl, sym, ap, ◌∙◌, subst}
use Rattle.std.proofs.Common.{append-nil}
use Rattle.cap_bytes.proofs.Putting.{Putting}
use Rattle.cap_bytes.specs.Device.{Writer}
use Rattle.cap_bytes.specs.Printing.{Prints}
use Rattle.cap_bytes.specs.declared.faults.Fault.{Fault}
use Rattle.cap_bytes.specs.declared.faults.Fault.TheVariants.{Refused, Memory}
use Rattle.cap_bytes.specs.declared.faults.Refusal.{Refusal}
use Rattle.cap_bytes.specs.declared.faults.Rule.{Rule}
use Rattle.cap_bytes.specs.declared.numbers.Order.{Order}
use Rattle.cap_source.proofs.Walking.{Plan, GoesOn, GivesUp, Prints-whole, Prints-front}
use Rattle.cap_source.specs.Feed.{Item, packet}
use Rattle.cap_source.specs.declared.packets.Meta.{Meta}
use Rattle.cap_write.proofs.Numbers.{write_fault-untimed}
use Rattle.cap_write.specs.inner.Interfaces.{HasUnits, Numbers}
use Rattle.cap_write.specs.Numbering.{Origins, refusal_at, refusal_by, write_fault}
use Rattle.cap_write.specs.Texts.{text_or, one_bytes}

-- if a packet is refused nothing is written
Prints-refused : (text : List ℕ) (meta : Meta) (rule : Rule) (fault : Option Rule) (held : List ℕ) → fault ≡ Some rule
    → Prints {A = Unit {0}} (text_or fault text) (refusal_by meta fault) held
    (Err (Refused (refusal_at meta rule))) held
Prints-refused text meta rule fault held is = grind (arith, append-nil)

-- a packet without a time is refused
pub Prints-untimed : (order : Order) (origins : Origins) (meta : Meta) (frame held : List ℕ) (fault : Fault)
    → HasUnits meta (Err fault)
    → Prints {A = Unit {0}} (one_bytes order origins meta frame) (refusal_by meta (write_fault origins meta)) held
    (Err fault) held
Prints-untimed order origins meta frame held fault h = grind (arith, Prints-refused, write_fault-untimed)

-- a packet whose interface has no number: it is refused, or there was no memory
pub Prints-unnumbered : (order : Order) (origins after : Origins) (meta : Meta) (frame held : List ℕ)
    (fault : Fault) → Numbers meta origins (Err fault) after
    → Prints {A = Unit {0}} (one_bytes order origins meta frame) (refusal_by meta (write_fault origins meta)) held
    (Err fault) held
Prints-unnumbered order origins after meta frame held Memory h = (0, sym (append-nil held))
Prints-unnumbered order origins after meta frame held (Refused r) h =
    subst (λ (q : Refusal). Prints {A = Unit {0}} (one_bytes order origins meta frame)
    (refusal_by meta (write_fault origins meta)) held (Err (Refused q)) held)
    (sym h.2) (Prints-refused _ meta h.0 (write_fault origins meta) held h.1)
Prints-unnumbered order origins after meta frame held fault h = absurd h

-- what is written of a feed's packets if one is refused, or isn't written whole
pub Prints-one : (plan next : Plan) (fault : Fault) (text : List ℕ) (refusal : Option Refusal) (from mid : Writer)
    (held : List ℕ)
    (meta : Meta) (frame lent : List ℕ) (line : List ℕ → List ℕ) (rule : Option Rule) (items rest : List Item)
    → ((r : Rule) → rule ≡ Some r → GivesUp plan meta frame (refusal_at meta r))
    → (rule ≡ None → GoesOn plan meta frame (text_or rule (line frame)) next)
    → items ≡ packet meta frame ∷ rest → lent ≡ frame
    → Putting from mid text (plan.text items) → IsTrue from.told → plan.refusal items ≡ refusal
    → Prints {A = Unit {0}} (text_or rule (line lent)) (refusal_by meta rule) mid.held (Err fault) held
    → Prints {A = Unit {0}} text refusal from.held (Err fault) held
Prints-one plan next fault text refusal from mid held meta frame lent line
    (Some r) items rest refuses goes split is p t same prints =
    let gives = refuses r refl in
    Prints-whole fault text [] refusal (refusal_at meta r) from mid held
    (subst (Putting from mid text) (ap plan.text split ∙ gives.text rest) p) t (sym same
    ∙ (ap plan.refusal split ∙ gives.refusal rest)) prints
Prints-one plan next fault text refusal from mid held meta frame lent line None items rest refuses goes split is p t
    same prints =
    Prints-front fault text (line frame) (next.text rest) refusal from mid held
    (subst (Putting from mid text) (ap plan.text split ∙ (goes refl).text rest) p) t
    (subst (λ f. Prints {A = Unit {0}} (line f) None mid.held (Err fault) held) is prints)
