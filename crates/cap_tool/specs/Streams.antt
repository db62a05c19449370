-- The opening of a run's files and of its output.
use Rattle.std.specs.Prelude.{◌≡◌, ◌≤◌, ◌-◌, ℕ, List, [], Bool, true, false, codes, get_or, length, Option, None}
use Rattle.std.specs.Prelude.{IsTrue}
use Rattle.std.specs.Str.{bytes_eq}
use Rattle.cap_bytes.specs.declared.faults.Fault.TheVariants as faults
use Rattle.cap_tool.specs.declared.outcomes.Outcome.{Outcome}
use Rattle.cap_tool.specs.declared.outcomes.Outcome.TheVariants as outcomes
use Rattle.cap_tool.specs.declared.outcomes.RunStop.{RunStop}
use Rattle.cap_tool.specs.declared.streams.Input.{Input}
use Rattle.cap_tool.specs.declared.streams.Input.TheVariants as inputs
use Rattle.cap_tool.specs.declared.streams.Output.{Output}
use Rattle.cap_tool.specs.declared.streams.Output.TheVariants as outputs

-- whether a name is that of a standard stream
abbrev pub is_dash : List ℕ → Bool
is_dash name = bytes_eq name (codes "-")

-- whether it is standard input, and no file that was opened
abbrev pub is_standard : Input → Bool
is_standard (inputs.File file) = false
is_standard (inputs.Standard standard) = true

-- it is a file that was created
abbrev pub IsOutFile : Output → Type 0
IsOutFile (outputs.File file) = Unit {0}
IsOutFile (outputs.Standard standard) = ⊥

-- it is standard output
abbrev pub IsStandardOut : Output → Type 0
IsStandardOut (outputs.File file) = ⊥
IsStandardOut (outputs.Standard standard) = Unit {0}

-- the output could not be created
abbrev pub StopsCreating : RunStop → Type 0
StopsCreating stop = stop.outcome ≡ outcomes.Create

-- the file of one of those names, which is `-`, can't be read
abbrev pub StopsAtDash : List (List ℕ) → Outcome → Type 0
StopsAtDash names outcomes.Done = ⊥
StopsAtDash names outcomes.Differ = ⊥
StopsAtDash names outcomes.NotWhole = ⊥
StopsAtDash names (outcomes.Line fault) = ⊥
StopsAtDash names (outcomes.Fault fault) = ⊥
StopsAtDash names (outcomes.Open n) = (1 ≤ n) × (n ≤ length names) × IsTrue (is_dash (get_or names (n - 1) []))
StopsAtDash names outcomes.List = ⊥
StopsAtDash names (outcomes.ListLine line) = ⊥
StopsAtDash names outcomes.Create = ⊥

-- the file of one of those names could not be opened, by what its opener gives, or there was no memory
abbrev pub StopsOpening : {R : Type 0} → (List ℕ → Option R → Type 0) → List (List ℕ) → Outcome → Type 0
StopsOpening gives names outcomes.Done = ⊥
StopsOpening gives names outcomes.Differ = ⊥
StopsOpening gives names outcomes.NotWhole = ⊥
StopsOpening gives names (outcomes.Line fault) = ⊥
StopsOpening gives names (outcomes.Fault fault) = fault ≡ faults.Memory
StopsOpening gives names (outcomes.Open n) = (1 ≤ n) × (n ≤ length names) × gives (get_or names (n - 1) []) None
StopsOpening gives names outcomes.List = ⊥
StopsOpening gives names (outcomes.ListLine line) = ⊥
StopsOpening gives names outcomes.Create = ⊥
