-- What `info` and `report` leave out of their files if those that are refused are to be left out.
use Rattle.std.specs.Prelude.{◌≡◌, ℕ, ◌+◌, suc, zero, List, [], ◌∷◌, ◌++◌, codes, Bool, IsTrue, ⊤}
use Rattle.std.specs.Prelude.{Option, Some, None, is_some, Result, Ok, Err}
use Rattle.std.specs.List.{list_any}
use Rattle.cap_bytes.specs.Rules.{rule_name, rule_number}
use Rattle.cap_bytes.specs.declared.faults.Fault.{Fault}
use Rattle.cap_bytes.specs.declared.faults.Fault.TheVariants.{Refused, Read, Write, Memory}
use Rattle.cap_bytes.specs.declared.faults.Refusal.{Refusal}
use Rattle.cap_bytes.specs.declared.faults.Tail.{Tail}
use Rattle.cap_check.specs.Checking.{Opened}
use Rattle.cap_print.specs.Facts.{Facts, line_in, named, number, one, word}
use Rattle.cap_print.specs.declared.forms.Form.{Form}
use Rattle.cap_source.specs.Feed.{refusal_of}
use Rattle.cap_source.specs.Items.{file_items}

-- the refusal of each of some files of those bytes, which have the numbers from that one on: none if it isn't refused
abbrev pub refusals_from : Tail → ℕ → List (List ℕ) → List (Option Refusal)
refusals_from tail file [] = []
refusals_from tail file (bytes ∷ files) = refusal_of (file_items tail file bytes) ∷ refusals_from tail (file + 1) files

-- Of some things, one for each file, those of the files that aren't refused, which are kept.
abbrev pub kept_of : {A : Type 0} → List (Option Refusal) → List A → List A
kept_of [] xs = []
kept_of (refusal ∷ refusals) [] = []
kept_of (None ∷ refusals) (x ∷ xs) = x ∷ kept_of refusals xs
kept_of (Some refusal ∷ refusals) (x ∷ xs) = kept_of refusals xs

-- whether any file is refused
abbrev pub is_any_refused : List (Option Refusal) → Bool
is_any_refused refusals = list_any is_some refusals

-- The number of the file that is the `nth` of those that are kept, by the refusals of the files, which have the numbers
-- from that one on; 0 if there are fewer.
abbrev pub kept_number : ℕ → List (Option Refusal) → ℕ → ℕ
kept_number file [] nth = 0
kept_number file (Some refusal ∷ refusals) nth = kept_number (file + 1) refusals nth
kept_number file (None ∷ refusals) zero = file
kept_number file (None ∷ refusals) (suc zero) = file
kept_number file (None ∷ refusals) (suc (suc n)) = kept_number (file + 1) refusals (suc n)

-- the line of a file that is left out: its number, where it is refused, and by which rule
abbrev pub left_out_facts : Refusal → Facts
left_out_facts refusal =
    record {
      kind = codes "left out";
      fields =
          one (record { label = codes " "; key = codes "file"; value = number refusal.file })
          ∷ one (named (codes "offset") (number refusal.offset))
          ∷ one (named (codes "rule") (number (rule_number refusal.rule)))
          ∷ one (record { label = codes " "; key = codes "name"; value = word (Some (rule_name refusal.rule)) }) ∷ [];
    }

abbrev pub left_out_line_in : Form → Refusal → List ℕ
left_out_line_in form refusal = line_in form (left_out_facts refusal)

-- a file's line, if it is refused
abbrev pub left_out_if : Form → Option Refusal → List ℕ
left_out_if form None = []
left_out_if form (Some refusal) = left_out_line_in form refusal

-- the lines of the files that are refused
abbrev pub left_out_lines : Form → List (Option Refusal) → List ℕ
left_out_lines form [] = []
left_out_lines form (refusal ∷ refusals) = left_out_if form refusal ++ left_out_lines form refusals

-- The file of that number was read to its end, and that is its refusal; or a read of it failed, or a growth was
-- refused.
abbrev pub FindsRefusal : Tail → ℕ → Opened → Result (Option Refusal) Fault → Type 0
FindsRefusal tail file opened (Ok refusal) =
    IsTrue opened.told → refusal ≡ refusal_of (file_items tail file opened.bytes)
FindsRefusal tail file opened (Err (Refused refusal)) = ⊥
FindsRefusal tail file opened (Err (Read f offset)) = (f ≡ file) × IsTrue opened.can_fail
FindsRefusal tail file opened (Err Write) = ⊥
FindsRefusal tail file opened (Err Memory) = ⊤
