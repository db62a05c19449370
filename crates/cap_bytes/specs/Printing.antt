-- What a call that writes a text leaves, by its answer.
use Rattle.std.specs.Prelude.{◌≡◌, ℕ, List, ◌++◌, take, Bool, true, false, Option, Some, None, Result, Ok, Err}
use Rattle.cap_bytes.specs.declared.faults.Fault.{Fault}
use Rattle.cap_bytes.specs.declared.faults.Fault.TheVariants.{Refused, Read, Write, Memory}
use Rattle.cap_bytes.specs.declared.faults.Refusal.{Refusal}

-- a prefix of the text was written
abbrev pub PrintsFront : List ℕ → List ℕ → List ℕ → Type 0
PrintsFront text old new = (n : ℕ) × (new ≡ old ++ take n text)

-- The text is written, and the refusal after it is returned, if there is one; after any other fault a
-- prefix of the text is written.
abbrev pub Prints : {A : Type 0} → List ℕ → Option Refusal → List ℕ → Result A Fault → List ℕ → Type 0
Prints text refusal old (Ok _) new = (refusal ≡ None) × (new ≡ old ++ text)
Prints text refusal old (Err (Refused r)) new = (refusal ≡ Some r) × (new ≡ old ++ text)
Prints text refusal old (Err (Read file offset)) new = PrintsFront text old new
Prints text refusal old (Err Write) new = PrintsFront text old new
Prints text refusal old (Err Memory) new = PrintsFront text old new

-- a reader failed
abbrev pub IsReadFault : {A : Type 0} → Result A Fault → Type 0
IsReadFault (Ok _) = ⊥
IsReadFault (Err (Refused refusal)) = ⊥
IsReadFault (Err (Read file offset)) = Unit {0}
IsReadFault (Err Write) = ⊥
IsReadFault (Err Memory) = ⊥

-- the writer failed
abbrev pub is_write : {A : Type 0} → Result A Fault → Bool
is_write (Ok _) = false
is_write (Err (Refused refusal)) = false
is_write (Err (Read file offset)) = false
is_write (Err Write) = true
is_write (Err Memory) = false
