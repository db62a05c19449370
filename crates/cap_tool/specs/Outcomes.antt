-- How a run ends: its status, and what is printed of it.
use Rattle.std.specs.Prelude.{◌≡◌, ℕ, List, [], ◌++◌, codes, decimal, Bool, true, false, Result, Ok, Err}
use Rattle.cap_bytes.specs.declared.faults.Fault.{Fault}
use Rattle.cap_bytes.specs.declared.faults.Fault.TheVariants.{Write}
use Rattle.cap_bytes.specs.Printing.{PrintsFront}
use Rattle.cap_commands.specs.FaultText.{fault_text}
use Rattle.cap_line.specs.declared.usage.TheConstants.{USAGE}
use Rattle.cap_line.specs.declared.faults.LineFault.{LineFault}
use Rattle.cap_line.specs.declared.faults.LineFault.TheVariants as lines
use Rattle.cap_commands.specs.declared.jobs.Finding.{Finding}
use Rattle.cap_commands.specs.declared.jobs.Finding.TheVariants.{Difference, Nothing, NotWhole}
use Rattle.cap_tool.specs.declared.outcomes.Outcome.{Outcome}
use Rattle.cap_tool.specs.declared.outcomes.Outcome.TheVariants as outcomes

-- how a run ends by what its command returned
abbrev pub ends_by : Result Finding Fault → Result (Unit {0}) Outcome
ends_by (Ok Nothing) = Ok tt
ends_by (Ok Difference) = Err outcomes.Differ
ends_by (Ok NotWhole) = Err outcomes.NotWhole
ends_by (Err fault) = Err (outcomes.Fault fault)

-- the status after a command line that wasn't run
abbrev pub status_after_line : LineFault → ℕ
status_after_line lines.Help = 0
status_after_line lines.Line = 2
status_after_line lines.Files = 2
status_after_line lines.Input = 2
status_after_line lines.Output = 2
status_after_line lines.Memory = 1

-- the status that the process ends with
abbrev pub status_after : Outcome → ℕ
status_after outcomes.Done = 0
status_after outcomes.Differ = 3
status_after outcomes.NotWhole = 1
status_after (outcomes.Line fault) = status_after_line fault
status_after (outcomes.Fault fault) = 1
status_after (outcomes.Open file) = 1
status_after outcomes.List = 1
status_after (outcomes.ListLine line) = 2
status_after outcomes.Create = 1

-- the file of that number could not be opened
abbrev pub open_text : ℕ → List ℕ
open_text file = codes "fault: open file " ++ decimal file ++ codes "\n"

-- what is printed of a command line that wasn't run: the usage for help and for one that isn't of capt
abbrev pub line_fault_text : LineFault → List ℕ
line_fault_text lines.Help = USAGE.now
line_fault_text lines.Line = USAGE.now
line_fault_text lines.Files = codes "fault: files\n"
line_fault_text lines.Input = codes "fault: input\n"
line_fault_text lines.Output = codes "fault: output\n"
line_fault_text lines.Memory = codes "fault: memory\n"

-- the line that is printed of a line of a list that is none
abbrev pub list_line_text : ℕ → List ℕ
list_line_text line = codes "fault: line " ++ decimal line ++ codes " of list\n"

-- what is printed of an outcome
abbrev pub outcome_text : Outcome → List ℕ
outcome_text outcomes.Done = []
outcome_text outcomes.Differ = []
outcome_text outcomes.NotWhole = []
outcome_text (outcomes.Line fault) = line_fault_text fault
outcome_text (outcomes.Fault fault) = fault_text fault
outcome_text (outcomes.Open file) = open_text file
outcome_text outcomes.List = codes "fault: read list\n"
outcome_text (outcomes.ListLine line) = list_line_text line
outcome_text outcomes.Create = codes "fault: create output\n"

-- help was asked for
abbrev pub is_help_line : LineFault → Bool
is_help_line lines.Help = true
is_help_line lines.Line = false
is_help_line lines.Files = false
is_help_line lines.Input = false
is_help_line lines.Output = false
is_help_line lines.Memory = false

abbrev pub is_help : Outcome → Bool
is_help outcomes.Done = false
is_help outcomes.Differ = false
is_help outcomes.NotWhole = false
is_help (outcomes.Line fault) = is_help_line fault
is_help (outcomes.Fault fault) = false
is_help (outcomes.Open file) = false
is_help outcomes.List = false
is_help (outcomes.ListLine line) = false
is_help outcomes.Create = false

-- what is printed of an outcome if that is said of words that give no job
abbrev pub told_line : List ℕ → LineFault → List ℕ
told_line said lines.Help = said
told_line said lines.Line = said
told_line said lines.Files = line_fault_text lines.Files
told_line said lines.Input = line_fault_text lines.Input
told_line said lines.Output = line_fault_text lines.Output
told_line said lines.Memory = line_fault_text lines.Memory

abbrev pub told_text : List ℕ → Outcome → List ℕ
told_text said outcomes.Done = outcome_text outcomes.Done
told_text said outcomes.Differ = outcome_text outcomes.Differ
told_text said outcomes.NotWhole = outcome_text outcomes.NotWhole
told_text said (outcomes.Line fault) = told_line said fault
told_text said (outcomes.Fault fault) = outcome_text (outcomes.Fault fault)
told_text said (outcomes.Open file) = outcome_text (outcomes.Open file)
told_text said outcomes.List = outcome_text outcomes.List
told_text said (outcomes.ListLine line) = outcome_text (outcomes.ListLine line)
told_text said outcomes.Create = outcome_text outcomes.Create

-- how a run ends that was asked for help: help is written, or the writer failed and a prefix of it is
abbrev pub HelpEnds : List ℕ → List ℕ → List ℕ → Outcome → Type 0
HelpEnds said old new outcomes.Done = ⊥
HelpEnds said old new outcomes.Differ = ⊥
HelpEnds said old new outcomes.NotWhole = ⊥
HelpEnds said old new (outcomes.Line fault) = (fault ≡ lines.Help) × (new ≡ old ++ said)
HelpEnds said old new (outcomes.Fault fault) = (fault ≡ Write) × PrintsFront said old new
HelpEnds said old new (outcomes.Open file) = ⊥
HelpEnds said old new outcomes.List = ⊥
HelpEnds said old new (outcomes.ListLine line) = ⊥
HelpEnds said old new outcomes.Create = ⊥
