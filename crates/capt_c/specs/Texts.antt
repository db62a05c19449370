-- Texts that a caller is shown.
use Rattle.std.specs.Prelude.{◌≡◌, ◌≤◌, ℕ, List, [], length, Option, Some, None, Result, Ok, Err}
use Rattle.std.specs.Vec.{vec_ptr}
use denote.RawPtr.{null_ptr}
use Rattle.cap_bytes.specs.declared.faults.Fault.{Fault}
use Rattle.cap_bytes.specs.declared.faults.Fault.TheVariants.{Refused, Read, Write, Memory}
use Rattle.capt_c.specs.Answers.{nowhere, place_of_result, status_of_result, status_of_unit}
use Rattle.capt_c.specs.HandleValue.{IsClosed}
use Rattle.capt_c.specs.declared.answers.CPlace.{CPlace}
use Rattle.capt_c.specs.declared.handles.HandleValue.{HandleValue}
use Rattle.capt_c.specs.declared.handles.HandleValue.TheVariants as helds
use Rattle.capt_c.specs.declared.texts.Bytes.{Bytes}
use Rattle.capt_c.specs.declared.texts.Text.{Text}

-- the bytes of a file
abbrev pub file_bytes : Bytes → List ℕ
file_bytes file = file.bytes.now

-- a write to memory that fails is a growth that was refused
abbrev pub by_memory : Result Unit Fault → Result Unit Fault
by_memory (Ok u) = Ok u
by_memory (Err (Refused refusal)) = Err (Refused refusal)
by_memory (Err (Read file offset)) = Err (Read file offset)
by_memory (Err Write) = Err Memory
by_memory (Err Memory) = Err Memory

-- A text is {0}.
pub record IsTextClosed (text : Text) : Type 0 where
  pub at : text.at ≡ null_ptr
  pub len : text.len ≡ 0
  pub handle : IsClosed text.handle.kept.value text.handle.kept.at text.handle.is_open

-- A caller is shown that text of the job that ended so, where the vector that is held has it, or for want of memory a
-- text that is closed.
abbrev pub Shown : List ℕ → Result Unit Fault → ℕ → CPlace → Text → Option HandleValue → Type 0
Shown items answer status place text None = IsTextClosed text × (status ≡ 5) × (place ≡ nowhere)
Shown items answer status place text (Some (helds.Capture c)) = ⊥
Shown items answer status place text (Some (helds.Fed f)) = ⊥
Shown items answer status place text (Some (helds.Table t)) = ⊥
Shown items answer status place text (Some (helds.Writer w)) = ⊥
Shown items answer status place text (Some (helds.Job job)) = ⊥
Shown items answer status place text (Some (helds.Text bytes)) =
    (bytes.items ≡ items) × (text.len ≡ length items) × (text.at ≡ vec_ptr bytes)
    × (status ≡ status_of_result status_of_unit (by_memory answer)) × (place ≡ place_of_result (by_memory answer))

-- A caller is shown a text that was made as `Does` says, from nothing, and how the job ended; or nothing for want of
-- memory.
abbrev pub JobEnds : (List ℕ → Result Unit Fault → List ℕ → Type 0) → ℕ → CPlace → Text → Type 0
JobEnds Does status place text =
    (answer : Result Unit Fault) × (items : List ℕ) × Does [] answer items
    × Shown items answer status place text text.handle.kept.value

-- a call takes that many files
abbrev pub AreFiles : ℕ → Type 0
AreFiles count = (1 ≤ count) × (count ≤ 32)

-- A call that is misused returns 6, and leaves the caller's text and place as they were.
abbrev pub ShowsNothing : ℕ → Text → CPlace → Text → CPlace → Type 0
ShowsNothing status was from text place = (status ≡ 6) × (text ≡ was) × (place ≡ from)
