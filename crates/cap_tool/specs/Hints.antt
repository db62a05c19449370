-- What is printed at a terminal beside the line of a fault.
use Rattle.std.specs.Prelude.{◌≡◌, ◌++◌, All, Bool, List, ℕ, chars, codes, true, false}
use Rattle.cap_bytes.specs.declared.faults.Fault.{Fault}
use Rattle.cap_bytes.specs.declared.faults.Fault.TheVariants as faults
use Rattle.cap_line.specs.Shown.{IsSeen}
use Rattle.cap_line.specs.declared.faults.LineFault.{LineFault}
use Rattle.cap_line.specs.declared.faults.LineFault.TheVariants as lines
use Rattle.cap_tool.specs.declared.outcomes.Outcome.{Outcome}
use Rattle.cap_tool.specs.declared.outcomes.Outcome.TheVariants as outcomes

-- whether a fault is of a file that is read or written
abbrev pub is_of_files : Fault → Bool
is_of_files (faults.Refused refusal) = true
is_of_files (faults.Read file offset) = true
is_of_files faults.Write = true
is_of_files faults.Memory = false

-- whether a command line names the wrong files
abbrev pub is_of_names : LineFault → Bool
is_of_names lines.Help = false
is_of_names lines.Line = false
is_of_names lines.Files = true
is_of_names lines.Input = true
is_of_names lines.Output = true
is_of_names lines.Memory = false

-- whether a run ended because of a file that is read or written
abbrev pub is_of_file : Outcome → Bool
is_of_file outcomes.Done = false
is_of_file outcomes.Differ = false
is_of_file outcomes.NotWhole = false
is_of_file (outcomes.Line fault) = is_of_names fault
is_of_file (outcomes.Fault fault) = is_of_files fault
is_of_file (outcomes.Open n) = true
is_of_file outcomes.List = true
is_of_file (outcomes.ListLine line) = true
is_of_file outcomes.Create = true

-- A line that a terminal shows beside a fault: two spaces, and a text of which each character is shown.
abbrev pub IsHintLine : List ℕ → Type 0
IsHintLine line = (text : List ℕ) × All IsSeen (chars text) × (line ≡ codes "  " ++ text ++ codes "\n")
