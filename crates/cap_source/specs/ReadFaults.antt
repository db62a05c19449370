-- What a call that has its readers by value tells of a failed read.
use Rattle.std.specs.Prelude.{◌≡◌, ℕ, ◌-◌, ◌≤◌, Bool, false, IsTrue, List, get_or, Result, Ok, Err, ⊤}
use Rattle.cap_bytes.specs.declared.faults.Fault.{Fault}
use Rattle.cap_bytes.specs.declared.faults.Fault.TheVariants.{Refused, Read, Write, Memory}

-- A failed read is of one of some files, which have the numbers from 1 on, and its own device is one that can fail.
abbrev pub FailsOf : {A : Type 0} → List Bool → Result A Fault → Type 0
FailsOf can_fail (Ok _) = ⊤
FailsOf can_fail (Err (Refused refusal)) = ⊤
FailsOf can_fail (Err (Read file offset)) = (1 ≤ file) × IsTrue (get_or can_fail (file - 1) false)
FailsOf can_fail (Err Write) = ⊤
FailsOf can_fail (Err Memory) = ⊤

-- A failed read is of the file of that number, and its device can fail.
abbrev pub FailsAs : {A : Type 0} → ℕ → Bool → Result A Fault → Type 0
FailsAs number can_fail (Ok _) = ⊤
FailsAs number can_fail (Err (Refused refusal)) = ⊤
FailsAs number can_fail (Err (Read file offset)) = (file ≡ number) × IsTrue can_fail
FailsAs number can_fail (Err Write) = ⊤
FailsAs number can_fail (Err Memory) = ⊤
