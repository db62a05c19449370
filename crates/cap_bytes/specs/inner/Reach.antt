-- How far a file is read for a piece of it.
use Rattle.std.specs.Prelude.{◌≡◌, ◌+◌, ◌≤◌, ◌<◌, ℕ, Bool, IsTrue, Option, Some, None, IfSome, IfNone, Result, Ok, Err}
use Rattle.std.specs.Prelude.{⊤}
use Rattle.cap_bytes.specs.inner.SourceState.{IsWithin}
use Rattle.cap_bytes.specs.declared.faults.Fault.{Fault}
use Rattle.cap_bytes.specs.declared.faults.Fault.TheVariants.{Refused, Read, Write, Memory}

-- A file was read up to `read`, and its next piece begins at `offset`. Its device gives `most` bytes at a time at most,
-- if it tells that; `told` says whether it tells the bytes to come, and `broken` is the offset with which a read that
-- failed was reported, once one has.
pub record Position : Type 0 where
  pub offset : ℕ
  pub read : ℕ
  pub most : Option ℕ
  pub told : Bool
  pub broken : Option ℕ

-- A piece that ends at `end` came, of a file that was read up to `old` before and is up to `new` now: no read began
-- once all of it had come.
abbrev pub ReachesTo : Option ℕ → ℕ → ℕ → ℕ → Type 0
ReachesTo most end old new = (end ≤ old → new ≡ old) × (old < end → IsWithin most end new)

-- How far a call for a piece reads. If it gives a piece of that size, no read began once all of it had come. A read
-- fails only if fewer than the `wanted` bytes of the piece had come, as the bytes to come tell them.
abbrev pub Reaches : {A : Type 0} → (A → Option ℕ) → ℕ → Position → Result A Fault → ℕ → Type 0
Reaches size wanted old (Ok answer) read = IfSome (size answer) (λ n. ReachesTo old.most (old.offset + n) old.read read)
Reaches size wanted old (Err (Read file offset)) read = IfNone old.broken (IsTrue old.told → read < old.offset + wanted)
Reaches size wanted old (Err Memory) read = ⊤
Reaches size wanted old (Err Write) read = ⊤
Reaches size wanted old (Err (Refused refusal)) read = ⊤

-- the size of a piece that a look found
abbrev pub size_found : {P E : Type 0} → (P → ℕ) → Result P E → Option ℕ
size_found size (Ok piece) = Some (size piece)
size_found size (Err stop) = None
