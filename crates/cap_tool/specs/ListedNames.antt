-- The captures that a list names, in place of the words of the command line.
use Rattle.std.specs.Prelude.{◌≡◌, ◌⊎◌, ◌==◌, ◌++◌, ℕ, List, [], ◌∷◌, map, codes, count_by, length, Option, Some, None}
use Rattle.std.specs.Prelude.{Result, Ok, Err, nat_lt, if◌then◌else◌, IsTrue}
use Rattle.std.specs.Str.{bytes_eq, is_utf8}
use Rattle.std.specs.Str.Lossy.{utf8_lossy}
use Rattle.cap_bytes.specs.declared.faults.Fault.TheVariants as faults
use Rattle.cap_check.specs.Checking.{Opened}
use Rattle.cap_line.specs.Jobs.{most_files}
use Rattle.cap_line.specs.declared.faults.LineFault.{LineFault}
use Rattle.cap_line.specs.declared.faults.LineFault.TheVariants.{Files, Input}
use Rattle.cap_line.specs.declared.jobs.Job.{Job}
use Rattle.cap_line.specs.declared.jobs.Task.{Task}
use Rattle.cap_tool.specs.declared.outcomes.Outcome.TheVariants as outcomes
use Rattle.cap_tool.specs.declared.outcomes.RunStop.{RunStop}

-- a byte before some pieces: it is put to the first of them, or is one by itself
abbrev pub put_to_first : ℕ → List (List ℕ) → List (List ℕ)
put_to_first b [] = (b ∷ []) ∷ []
put_to_first b (piece ∷ pieces) = (b ∷ piece) ∷ pieces

-- the pieces of some bytes of which a byte `end` ends each, and the last may also be ended by the end
unfoldable pub pieces : ℕ → List ℕ → List (List ℕ)
pieces end [] = []
pieces end (b ∷ bytes) = if b == end then [] ∷ pieces end bytes else put_to_first b (pieces end bytes)

-- A name that some bytes give: their text; if they aren't UTF-8, what of them is, and behind it a NUL, which no file's
-- name has, so that no file of that name can be opened.
abbrev pub listed_name : List ℕ → List ℕ
listed_name bytes = if is_utf8 bytes then bytes else utf8_lossy bytes ++ 0 ∷ []

-- the names that a list has: a NUL ends each
abbrev pub listed_names : List ℕ → List (List ℕ)
listed_names bytes = map listed_name (pieces 0 bytes)

-- what names are refused by that a list of that name has: more than the task takes; standard input twice, which the
-- list may be
abbrev pub listed_fault : Task → List ℕ → List (List ℕ) → Result (Unit {0}) LineFault
listed_fault task list names =
    if nat_lt (most_files task) (length names) then Err Files else
    if nat_lt 1 (count_by (λ n. bytes_eq n (codes "-")) (list ∷ names)) then Err Input else Ok tt

-- A list of that name was opened and read whole: these are its bytes, if what it is read from tells them.
pub record ReadsList {R : Type 0} (gives : List ℕ → Option R → Type 0) (known : R → Opened) (list bytes : List ℕ)
    : Type 0 where
  pub reader : R
  pub opened : gives list (Some reader)
  pub read : IsTrue (known reader).told → bytes ≡ (known reader).bytes

-- A list of that name could not be read: it can't be opened, a read of it failed, or there was no memory.
abbrev pub StopsReading : {R : Type 0} → (List ℕ → Option R → Type 0) → (R → Opened) → List ℕ → RunStop → Type 0
StopsReading {R = R} gives known list stop =
    ((stop.outcome ≡ outcomes.List)
    × (gives list None ⊎ ((reader : R) × gives list (Some reader) × IsTrue (known reader).can_fail)))
    ⊎ (stop.outcome ≡ outcomes.Fault faults.Memory)

-- A run stopped at its list: it could not be read, or what it names is refused.
abbrev pub StopsAtList : {R : Type 0} → (List ℕ → Option R → Type 0) → (R → Opened) → Task → List ℕ → RunStop → Type 0
StopsAtList gives known task list stop =
    StopsReading gives known list stop
    ⊎ ((bytes : List ℕ) × (fault : LineFault) × ReadsList gives known list bytes
    × (listed_fault task list (listed_names bytes) ≡ Err fault) × (stop.outcome ≡ outcomes.Line fault))
