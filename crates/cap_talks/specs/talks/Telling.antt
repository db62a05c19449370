-- What a call that writes a whole text, or nothing, leaves.
use Rattle.std.specs.Prelude.{◌≡◌, ℕ, List, ◌++◌, Option, Some, None, Result, Ok, Err}
use Rattle.cap_bytes.specs.Printing.{PrintsFront}
use Rattle.cap_bytes.specs.declared.faults.Fault.{Fault}
use Rattle.cap_bytes.specs.declared.faults.Fault.TheVariants.{Refused, Read, Write, Memory}
use Rattle.cap_bytes.specs.declared.faults.Refusal.{Refusal}

-- The text is written if nothing is refused. A refusal is returned, and nothing is written then, nor if a read
-- failed or a growth was refused. If the writer failed, a prefix of the text is written.
abbrev pub Tells : {A : Type 0} → List ℕ → Option Refusal → List ℕ → Result A Fault → List ℕ → Type 0
Tells text refusal old (Ok _) new = (refusal ≡ None) × (new ≡ old ++ text)
Tells text refusal old (Err (Refused r)) new = (refusal ≡ Some r) × (new ≡ old)
Tells text refusal old (Err (Read file offset)) new = new ≡ old
Tells text refusal old (Err Write) new = (refusal ≡ None) × PrintsFront text old new
Tells text refusal old (Err Memory) new = new ≡ old
