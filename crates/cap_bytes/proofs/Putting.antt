-- A text that is being written in pieces.
use Rattle.std.proofs.lemmas.Grind.{common_steps}
use Rattle.std.proofs.Common.{◌≡◌, ℕ, ◌+◌, ◌≤◌, min, List, [], ◌++◌, length, take, drop, IsTrue, Option, Result, Ok}
use Rattle.std.proofs.Common.{Err, sym, ◌∙◌, ap, arith, take-add, append_assoc, append-nil, take-append-drop}
use Rattle.std.proofs.lemmas.List.{take-append-le, take_min}
use Rattle.std.proofs.Math.Nat.{min-le_right}
use Rattle.std.proofs.Math.Seq.{take-append-add}
use Rattle.cap_bytes.specs.Device.{Puts, Writer}
use Rattle.cap_bytes.specs.Printing.{Prints, PrintsFront}
use Rattle.cap_bytes.specs.declared.faults.Fault.{Fault}
use Rattle.cap_bytes.specs.declared.faults.Fault.TheVariants.{Refused, Read, Write, Memory}
use Rattle.cap_bytes.specs.declared.faults.Refusal.{Refusal}

-- a prefix of the bytes is written, and `rest` is what is left of them
pub record Putting (old new : Writer) (bytes rest : List ℕ) : Type 0 where
  pub at : ℕ
  pub within : at ≤ length bytes
  pub left : rest ≡ drop at bytes
  pub written : IsTrue old.told → new.held ≡ old.held ++ take at bytes
  pub told : IsTrue old.told → IsTrue new.told
  pub cannot : IsTrue new.can_fail → IsTrue old.can_fail

-- n more bytes are written
pub Putting-more : (old mid new : Writer) (bytes rest : List ℕ) (n : ℕ)
    → Putting old mid bytes rest → n ≤ length rest
    → (IsTrue mid.told → new.held ≡ mid.held ++ take n rest)
    → (IsTrue mid.told → IsTrue new.told)
    → (IsTrue new.can_fail → IsTrue mid.can_fail)
    → Putting old new bytes (drop n rest)
Putting-more old mid new bytes rest n p fits more told cannot = grind (arith, common_steps, take-add)

-- If nothing is left to write, all is written.
pub Putting-all : (from to : Writer) (text rest : List ℕ) → Putting from to text rest → rest ≡ [] → IsTrue from.told
    → to.held ≡ from.held ++ text
Putting-all from to text rest p none t =
    p.written t
    ∙ ap (λ l. from.held ++ l)
    (sym (append-nil (take p.at text))
    ∙ (ap (λ l. take p.at text ++ l) (sym (sym p.left ∙ none))
    ∙ take-append-drop p.at text))

-- A prefix of what is left to write is written: n bytes, or all if they are fewer.
pub Putting-front : (from mid : Writer) (held text line behind : List ℕ) (n : ℕ)
    → Putting from mid text (line ++ behind) → IsTrue from.told → held ≡ mid.held ++ take n line
    → PrintsFront text from.held held
Putting-front from mid held text line behind n p t more =
    let m = min n (length line) in
    let short : take m (line ++ behind) ≡ take n line =
    take-append-le m line behind (omega (arith, min-le_right n (length line))) ∙ take_min n line in (
      p.at + m,
      more ∙ (ap (λ l. l ++ take n line) (p.written t)
          ∙ (append_assoc from.held (take p.at text) (take n line)
          ∙ ap (λ l. from.held ++ l)
          (ap (λ l. take p.at text ++ l) (sym short ∙ ap (take m) p.left)
          ∙ sym (take-add p.at m text)))),
    )

-- A writer that failed in the first part of a text wrote a prefix of the whole.
pub Prints-head : (refusal : Option Refusal) (old new head text : List ℕ) (fault : Fault) → fault ≡ Write
    → Puts {A = Unit {0}} old (Err fault) new head
    → Prints {A = Unit {0}} (head ++ text) refusal old (Err fault) new
Prints-head refusal old new head text fault is p =
    let m = min p.0 (length head) in
    rw is
    ((
      m,
      p.1 ∙ ap (λ l. old ++ l) (sym (take-append-le m head text (omega (arith, min-le_right p.0 (length head)))
          ∙ take_min p.0 head)),
    ))

joined : (old mid head text new : List ℕ) → mid ≡ old ++ head → new ≡ mid ++ text → new ≡ old ++ (head ++ text)
joined old mid head text new first p = p ∙ (ap (λ l. l ++ text) first ∙ append_assoc old head text)

front_behind : (old mid new head text : List ℕ) → mid ≡ old ++ head → PrintsFront text mid new
    → PrintsFront (head ++ text) old new
front_behind old mid new head text first p = (
  length head + p.0,
  joined old mid head (take p.0 text) new first p.1
      ∙ ap (λ l. old ++ l) (sym (take-append-add head text p.0)),
)

-- the rest of a text is written after its first part
pub Prints-behind : (refusal : Option Refusal) (old mid new head text : List ℕ) (result : Result (Unit {0}) Fault)
    → mid ≡ old ++ head
    → Prints text refusal mid result new → Prints (head ++ text) refusal old result new
Prints-behind refusal old mid new head text (Ok x) first p = (p.0, joined old mid head text new first p.1)
Prints-behind refusal old mid new head text (Err (Refused r)) first p = (p.0, joined old mid head text new first p.1)
Prints-behind refusal old mid new head text (Err (Read file offset)) first p =
    front_behind old mid new head text first p
Prints-behind refusal old mid new head text (Err Write) first p = front_behind old mid new head text first p
Prints-behind refusal old mid new head text (Err Memory) first p = front_behind old mid new head text first p

-- Bytes are written in two parts: a prefix of the first is a prefix of the whole.
pub Puts-first : (A : Type 0) (old new head rest : List ℕ) (fault : Fault) → Puts {A = A} old (Err fault) new head
    → Puts {A = A} old (Err fault) new (head ++ rest)
Puts-first A old new head rest fault p = (
  min p.0 (length head),
  p.1 ∙ ap (λ l. old ++ l) (sym (take-append-le (min p.0 (length head)) head rest (omega arith) ∙ take_min p.0 head)),
)

-- The second part follows the first.
pub Puts-second : (A : Type 0) (old mid new head rest : List ℕ) (result : Result A Fault) → mid ≡ old ++ head
    → Puts mid result new rest
    → Puts old result new (head ++ rest)
Puts-second A old mid new head rest (Ok x) first second = grind (arith, append_assoc)
Puts-second A old mid new head rest (Err fault) first second = (
  length head + second.0,
  second.1 ∙ (ap (λ l. l ++ take second.0 rest) first ∙ (append_assoc old head (take second.0 rest)
      ∙ ap (λ l. old ++ l) (sym (take-append-add head rest second.0)))),
)
