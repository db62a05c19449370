-- The line of a refusal or a fault as a JSON object (RFC 8259), with the word that named its file.
use Rattle.std.specs.Prelude.{ℕ, ◌/◌, ◌%◌, suc, zero, List, [], ◌∷◌, ◌++◌, chars, codes, decimal, encode_utf8, flat_map}
use Rattle.std.specs.Prelude.{if◌then◌else◌, Option, Some, None, slice_get}
use Rattle.hex.specs.Hex.{encode_lower}
use Rattle.cap_bytes.specs.Rules.{rule_number, rule_name}
use Rattle.cap_bytes.specs.declared.faults.Fault.{Fault}
use Rattle.cap_bytes.specs.declared.faults.Fault.TheVariants.{Refused, Read, Write, Memory}
use Rattle.cap_bytes.specs.declared.faults.Refusal.{Refusal}
use Rattle.cap_line.specs.Shown.{is_hidden}
use Rattle.cap_print.specs.Strings.{escaped_byte}
use Rattle.cap_print.specs.declared.forms.Form.{Form}
use Rattle.cap_print.specs.declared.forms.Form.TheVariants.{Text, Json}
use Rattle.cap_tool.specs.Outcomes.{line_fault_text, told_line, told_text}
use Rattle.cap_tool.specs.declared.outcomes.Outcome.{Outcome}
use Rattle.cap_tool.specs.declared.outcomes.Outcome.TheVariants as outcomes

-- the word that named the file of that number, from 1, if there is one
abbrev pub path_of : List (List ℕ) → ℕ → Option (List ℕ)
path_of paths zero = None
path_of paths (suc place) = slice_get paths place

-- A character of a word in a string (RFC 8259, 7): one that a terminal doesn't show as `\u` and the four hexadecimal
-- digits of its code, which is below 2^16, and any other by its bytes, of which `"` and `\` stand behind a `\`.
abbrev pub escaped_character : ℕ → List ℕ
escaped_character c =
    if is_hidden c then codes "\\u" ++ encode_lower (c / 256 ∷ c % 256 ∷ []) else flat_map escaped_byte (encode_utf8 c)

-- the field of that word, if there is one
abbrev pub path_json : Option (List ℕ) → List ℕ
path_json None = []
path_json (Some path) = codes ",\"path\":\"" ++ flat_map escaped_character (chars path) ++ codes "\""

-- An object of some fields and of the word that named its file, on a line of its own.
abbrev pub object_json : List ℕ → Option (List ℕ) → List ℕ
object_json fields path = codes "{" ++ (fields ++ (path_json path ++ codes "}\n"))

-- the fields of a refusal: where a file is refused, and by which rule
abbrev pub refused_fields : Refusal → List ℕ
refused_fields refusal =
    codes "\"type\":\"refused\",\"file\":" ++ decimal refusal.file ++ codes ",\"offset\":" ++ decimal refusal.offset
    ++ codes ",\"rule\":" ++ decimal (rule_number refusal.rule) ++ codes ",\"name\":\"" ++ rule_name refusal.rule
    ++ codes "\""

-- the fields of a read that failed, from that offset on
abbrev pub read_fields : ℕ → ℕ → List ℕ
read_fields file offset =
    codes "\"type\":\"fault\",\"fault\":\"read\",\"file\":" ++ decimal file ++ codes ",\"offset\":" ++ decimal offset

-- the fields of a file that could not be opened
abbrev pub open_fields : ℕ → List ℕ
open_fields file = codes "\"type\":\"fault\",\"fault\":\"open\",\"file\":" ++ decimal file

-- a line of a list that is none, as an object
abbrev pub list_line_json : ℕ → List ℕ
list_line_json line = codes "{\"type\":\"fault\",\"fault\":\"list\",\"line\":" ++ decimal line ++ codes "}\n"

-- a fault as an object
abbrev pub fault_json : Fault → List (List ℕ) → List ℕ
fault_json (Refused refusal) paths = object_json (refused_fields refusal) (path_of paths refusal.file)
fault_json (Read file offset) paths = object_json (read_fields file offset) (path_of paths file)
fault_json Write paths = codes "{\"type\":\"fault\",\"fault\":\"write\"}\n"
fault_json Memory paths = codes "{\"type\":\"fault\",\"fault\":\"memory\"}\n"

-- What is printed of an outcome as an object, by the words that named the files. Of a command line that wasn't run it
-- is what is printed in text.
abbrev pub outcome_json : Outcome → List (List ℕ) → List ℕ
outcome_json outcomes.Done paths = []
outcome_json outcomes.Differ paths = []
outcome_json outcomes.NotWhole paths = []
outcome_json (outcomes.Line fault) paths = line_fault_text fault
outcome_json (outcomes.Fault fault) paths = fault_json fault paths
outcome_json (outcomes.Open file) paths = object_json (open_fields file) (path_of paths file)
outcome_json outcomes.List paths = codes "{\"type\":\"fault\",\"fault\":\"list\"}\n"
outcome_json (outcomes.ListLine line) paths = list_line_json line
outcome_json outcomes.Create paths = codes "{\"type\":\"fault\",\"fault\":\"create\"}\n"

-- what is printed of an outcome as an object, if that is said of words that give no job
abbrev pub told_json : List ℕ → Outcome → List (List ℕ) → List ℕ
told_json said outcomes.Done paths = outcome_json outcomes.Done paths
told_json said outcomes.Differ paths = outcome_json outcomes.Differ paths
told_json said outcomes.NotWhole paths = outcome_json outcomes.NotWhole paths
told_json said (outcomes.Line fault) paths = told_line said fault
told_json said (outcomes.Fault fault) paths = outcome_json (outcomes.Fault fault) paths
told_json said (outcomes.Open file) paths = outcome_json (outcomes.Open file) paths
told_json said outcomes.List paths = outcome_json outcomes.List paths
told_json said (outcomes.ListLine line) paths = outcome_json (outcomes.ListLine line) paths
told_json said outcomes.Create paths = outcome_json outcomes.Create paths

-- what is printed of an outcome in a form
abbrev pub told_in : Form → List ℕ → Outcome → List (List ℕ) → List ℕ
told_in (Text times) said outcome paths = told_text said outcome
told_in (Json times) said outcome paths = told_json said outcome paths

-- what explains how a run ended, as an object
abbrev pub hint_json : List ℕ → List ℕ
hint_json text = codes "{\"type\":\"hint\",\"hint\":\"" ++ flat_map escaped_character (chars text) ++ codes "\"}\n"
