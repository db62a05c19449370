-- What is printed of a fault of a command.
use Rattle.std.specs.Prelude.{ℕ, List, ◌++◌, codes, decimal}
use Rattle.cap_bytes.specs.Rules.{rule_number, rule_name}
use Rattle.cap_bytes.specs.declared.faults.Fault.{Fault}
use Rattle.cap_bytes.specs.declared.faults.Fault.TheVariants.{Refused, Read, Write, Memory}
use Rattle.cap_bytes.specs.declared.faults.Refusal.{Refusal}

-- where a file is refused, and by which rule
abbrev pub refusal_text : Refusal → List ℕ
refusal_text refusal =
    codes "refused: file " ++ decimal refusal.file ++ codes " offset " ++ decimal refusal.offset
    ++ codes " rule " ++ decimal (rule_number refusal.rule) ++ codes " " ++ rule_name refusal.rule ++ codes "\n"

-- the file of that number could not be read, from that offset on
abbrev pub read_text : ℕ → ℕ → List ℕ
read_text file offset = codes "fault: read file " ++ decimal file ++ codes " offset " ++ decimal offset ++ codes "\n"

-- what is printed of a fault
abbrev pub fault_text : Fault → List ℕ
fault_text (Refused refusal) = refusal_text refusal
fault_text (Read file offset) = read_text file offset
fault_text Write = codes "fault: write\n"
fault_text Memory = codes "fault: memory\n"
