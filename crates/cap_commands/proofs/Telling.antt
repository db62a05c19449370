-- What is written of a text, whatever the writer answered.
use Rattle.std.proofs.Common.{List, ℕ, ◌++◌, length, Bool, Option, Result, Ok, Err, sym, ◌∙◌, ap}
use Rattle.std.proofs.Math.Seq.{take-length}
use Rattle.cap_bytes.specs.Device.{Puts}
use Rattle.cap_bytes.specs.declared.faults.Fault.{Fault}
use Rattle.cap_bytes.specs.declared.faults.Fault.TheVariants.{Refused, Read, Write, Memory}
use Rattle.cap_bytes.specs.declared.faults.Refusal.{Refusal}
use Rattle.cap_bytes.specs.Printing.{Prints, PrintsFront}
use Rattle.cap_source.specs.ReadFaults.{FailsOf}

-- all that was written is a prefix
pub Puts-front : {A : Type 0} → (answer : Result A Fault) (old new text : List ℕ) → Puts old answer new text
    → PrintsFront text old new
Puts-front (Ok _) old new text puts = (length text, puts ∙ ap (λ l. old ++ l) (sym (take-length text)))
Puts-front (Err _) old new text puts = puts

-- A fault says the same of what was written, whatever the call returns that has none.
pub Prints-fault : (A B : Type 0) (fault : Fault) (text : List ℕ) (refusal : Option Refusal) (old new : List ℕ)
    → Prints {A = A} text refusal old (Err fault) new → Prints {A = B} text refusal old (Err fault) new
Prints-fault A B (Refused r) text refusal old new prints = prints
Prints-fault A B (Read file offset) text refusal old new prints = prints
Prints-fault A B Write text refusal old new prints = prints
Prints-fault A B Memory text refusal old new prints = prints

-- and of the file whose read failed
pub FailsOf-fault : (A B : Type 0) (fault : Fault) (can_fail : List Bool) → FailsOf {A = A} can_fail (Err fault)
    → FailsOf {A = B} can_fail (Err fault)
FailsOf-fault A B (Refused r) can_fail fails = fails
FailsOf-fault A B (Read file offset) can_fail fails = fails
FailsOf-fault A B Write can_fail fails = fails
FailsOf-fault A B Memory can_fail fails = fails
