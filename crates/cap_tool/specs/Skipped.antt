-- What a run of `info` or `report` finds and prints that leaves out the files that are refused.
use Rattle.std.specs.Prelude.{◌≡◌, ◌⊎◌, ◌≤◌, ◌+◌, ◌-◌, ℕ, List, [], ◌∷◌, get_or, length, map, IsTrue, if◌then◌else◌}
use Rattle.std.specs.Prelude.{Option, Some, Result, Ok, Err}
use Rattle.cap_bytes.specs.declared.faults.Fault.{Fault}
use Rattle.cap_bytes.specs.declared.faults.Fault.TheVariants as faults
use Rattle.cap_bytes.specs.declared.faults.Refusal.{Refusal}
use Rattle.cap_bytes.specs.declared.faults.Tail.{Tail}
use Rattle.cap_check.specs.Checking.{Opened}
use Rattle.cap_commands.specs.Skipping.{FindsRefusal, is_any_refused, kept_number}
use Rattle.cap_tool.specs.CheckedNames.{AreGiven}
use Rattle.cap_tool.specs.Streams.{StopsOpening}
use Rattle.cap_tool.specs.declared.outcomes.Outcome.{Outcome}
use Rattle.cap_tool.specs.declared.outcomes.Outcome.TheVariants as outcomes
use Rattle.cap_tool.specs.declared.outcomes.RunStop.{RunStop}

-- A read failed of the file of one of those names, which was opened.
abbrev pub StopsAtRead : {R : Type 0} → (List ℕ → Option R → Type 0) → (R → Opened) → List (List ℕ) → Outcome → Type 0
StopsAtRead {R = R} gives known names outcome =
    (file : ℕ) × (offset : ℕ) × (reader : R) × (outcome ≡ outcomes.Fault (faults.Read file offset))
    × (1 ≤ file) × (file ≤ length names) × gives (get_or names (file - 1) []) (Some reader)
    × IsTrue (known reader).can_fail

-- The refusal of one of the files of those names isn't found: it can't be opened, a read of it failed, or there was no
-- memory.
abbrev pub StopsFinding : {R : Type 0} → (List ℕ → Option R → Type 0) → (R → Opened) → List (List ℕ) → Outcome → Type 0
StopsFinding gives known names outcome = StopsOpening gives names outcome ⊎ StopsAtRead gives known names outcome

-- The file at a place of those names was opened, and its refusal was found, if it is refused; or it wasn't found.
abbrev pub FindsAt : {R : Type 0} → (List ℕ → Option R → Type 0) → (R → Opened) → Tail → List (List ℕ) → ℕ
    → Result (Option Refusal) RunStop → Type 0
FindsAt {R = R} gives known tail names place (Ok refusal) =
    (reader : R) × gives (get_or names place []) (Some reader)
    × FindsRefusal tail (place + 1) (known reader) (Ok refusal)
FindsAt gives known tail names place (Err stop) = StopsFinding gives known names stop.outcome

-- Those are the refusals of files that have the numbers from that one on.
abbrev pub AreRefusals : Tail → ℕ → List Opened → List (Option Refusal) → Type 0
AreRefusals tail file [] [] = Unit {0}
AreRefusals tail file [] (refusal ∷ refusals) = ⊥
AreRefusals tail file (opened ∷ files) [] = ⊥
AreRefusals tail file (opened ∷ files) (refusal ∷ refusals) =
    FindsRefusal tail file opened (Ok refusal) × AreRefusals tail (file + 1) files refusals

-- The files of those names were opened, one after another, each as its opener gives it, and those are their refusals.
pub record FindsRefusals {R : Type 0} (gives : List ℕ → Option R → Type 0) (known : R → Opened) (tail : Tail)
    (names : List (List ℕ)) (refusals : List (Option Refusal)) : Type 0 where
  pub readers : List R
  pub opened : AreGiven gives names (map Some readers)
  pub all : length readers ≡ length names
  pub found : AreRefusals tail 1 (map known readers) refusals

-- A fault of the files that are kept, with the number of its file among all files; and how a run over them ended, too.
abbrev pub fault_on_line : List (Option Refusal) → Fault → Fault
fault_on_line refusals (faults.Refused refusal) =
    faults.Refused (record refusal { file = kept_number 1 refusals refusal.file })
fault_on_line refusals (faults.Read file offset) = faults.Read (kept_number 1 refusals file) offset
fault_on_line refusals faults.Write = faults.Write
fault_on_line refusals faults.Memory = faults.Memory

abbrev pub outcome_on_line : List (Option Refusal) → Outcome → Outcome
outcome_on_line refusals outcomes.Done = outcomes.Done
outcome_on_line refusals outcomes.Differ = outcomes.Differ
outcome_on_line refusals outcomes.NotWhole = outcomes.NotWhole
outcome_on_line refusals (outcomes.Line fault) = outcomes.Line fault
outcome_on_line refusals (outcomes.Fault fault) = outcomes.Fault (fault_on_line refusals fault)
outcome_on_line refusals (outcomes.Open file) = outcomes.Open (kept_number 1 refusals file)
outcome_on_line refusals outcomes.List = outcomes.List
outcome_on_line refusals (outcomes.ListLine line) = outcomes.ListLine line
outcome_on_line refusals outcomes.Create = outcomes.Create

-- How a run ends whose job ended so over the files that are kept: if it is done, and a file was left out, as one that
-- found a file that isn't whole.
abbrev pub ended_skipping : List (Option Refusal) → Result (Unit {0}) Outcome → Result (Unit {0}) Outcome
ended_skipping refusals (Ok done) = if is_any_refused refusals then Err outcomes.NotWhole else Ok tt
ended_skipping refusals (Err outcome) = Err (outcome_on_line refusals outcome)
