-- What `capt digest --verify` says of each line of a list.
use Rattle.std.specs.Prelude.{◌≡◌, ◌+◌, ℕ, List, [], ◌∷◌, ◌++◌, codes, length, map, Bool, true, false, if◌then◌else◌}
use Rattle.std.specs.Prelude.{Option, Some, None, Result, Ok, Err}
use Rattle.std.specs.List.{list_any}
use Rattle.std.specs.Str.{bytes_eq}
use Rattle.cap_bytes.specs.Printing.{PrintsFront}
use Rattle.cap_bytes.specs.declared.faults.Fault.{Fault}
use Rattle.cap_bytes.specs.declared.faults.Fault.TheVariants as faults
use Rattle.cap_bytes.specs.declared.faults.Tail.{Tail}
use Rattle.cap_check.specs.CheckText.{check_line_in}
use Rattle.cap_check.specs.Checking.{IsChecked, Opened}
use Rattle.cap_check.specs.declared.checked.Check.{Check}
use Rattle.cap_check.specs.declared.checked.CheckLine.TheVariants as lines
use Rattle.cap_commands.specs.declared.jobs.Finding.{Finding}
use Rattle.cap_commands.specs.declared.jobs.Finding.TheVariants.{Difference, Nothing, NotWhole}
use Rattle.cap_print.specs.Facts.{Field, begin_in, end_in, fields_in, number, one, word}
use Rattle.cap_print.specs.declared.forms.Form.{Form}
use Rattle.cap_print.specs.declared.forms.Form.TheVariants.{Text}
use Rattle.cap_print.specs.declared.forms.TimeForm.TheVariants.{Exact}
use Rattle.cap_tool.specs.CheckedNames.{AreGiven}
use Rattle.cap_tool.specs.DigestLines.{Entry}
use Rattle.cap_tool.specs.NameFields.{name_field}
use Rattle.cap_tool.specs.declared.verify.Verdict.{Verdict}
use Rattle.cap_tool.specs.declared.verify.Verdict.TheVariants.{Same, Differs, Missing}

-- the line that `digest --names` prints of a file of that number and name that was checked
abbrev pub digest_line : ℕ → List ℕ → Check → List ℕ
digest_line file name check = check_line_in lines.Digest (Text Exact) file (name_field (Text Exact) true name) check

-- What is said of a line: its file is missing if it can't be opened; it is the same if `digest --names` prints that
-- very line of it, with the number and the name that the line has; or it differs.
abbrev pub verdict_by : Entry → Check → Verdict
verdict_by entry check = if bytes_eq (digest_line entry.number entry.name check) entry.text then Same else Differs

abbrev pub IsVerdict : Tail → Entry → Option Opened → Verdict → Type 0
IsVerdict tail entry (Some opened) verdict =
    (check : Check) × IsChecked tail true entry.number (Some opened) check × (verdict ≡ verdict_by entry check)
IsVerdict tail entry None verdict = verdict ≡ Missing

-- the first of some lines have these files, which could be opened or not, and that is said of them
abbrev pub AreVerdicts : Tail → List Entry → List (Option Opened) → List Verdict → Type 0
AreVerdicts tail entries [] [] = Unit {0}
AreVerdicts tail entries [] (verdict ∷ verdicts) = ⊥
AreVerdicts tail entries (file ∷ files) [] = ⊥
AreVerdicts tail [] (file ∷ files) (verdict ∷ verdicts) = ⊥
AreVerdicts tail (entry ∷ entries) (file ∷ files) (verdict ∷ verdicts) =
    IsVerdict tail entry file verdict × AreVerdicts tail entries files verdicts

-- the word for it
abbrev pub verdict_name : Verdict → List ℕ
verdict_name Same = codes "same"
verdict_name Differs = codes "differs"
verdict_name Missing = codes "missing"

-- the line in which it is said: `verify`, the number of the line's file, that word, and the file's name
abbrev pub verdict_fields : ℕ → Verdict → List Field
verdict_fields file verdict =
    one (record { label = codes " "; key = codes "file"; value = number file })
    ∷ one (record { label = codes " "; key = codes "result"; value = word (Some (verdict_name verdict)) }) ∷ []

abbrev pub verdict_line : Form → Entry → Verdict → List ℕ
verdict_line form entry verdict =
    begin_in form (codes "verify") (fields_in form (verdict_fields entry.number verdict) [])
    ++ (name_field form true entry.name ++ end_in form)

abbrev pub verdict_lines : Form → List Entry → List Verdict → List ℕ
verdict_lines form entries [] = []
verdict_lines form [] (verdict ∷ verdicts) = []
verdict_lines form (entry ∷ entries) (verdict ∷ verdicts) =
    verdict_line form entry verdict ++ verdict_lines form entries verdicts

-- whether a file is missing, and whether it differs
abbrev pub is_missing : Verdict → Bool
is_missing Same = false
is_missing Differs = false
is_missing Missing = true

abbrev pub is_differing : Verdict → Bool
is_differing Same = false
is_differing Differs = true
is_differing Missing = false

-- what is found: a missing file, or else one that differs
abbrev pub finding_after : List Verdict → Finding
finding_after verdicts =
    if list_any is_missing verdicts then NotWhole else
    if list_any is_differing verdicts then Difference else Nothing

-- What was said of the first of some lines is written: of all, and that is what is found; of those before a growth that
-- was refused; or a prefix of it, if a write failed.
abbrev pub WritesVerdicts : Form → List Entry → List Verdict → List ℕ → Result Finding Fault → List ℕ → Type 0
WritesVerdicts form entries verdicts old (Ok found) new =
    (length verdicts ≡ length entries) × (found ≡ finding_after verdicts)
    × (new ≡ old ++ verdict_lines form entries verdicts)
WritesVerdicts form entries verdicts old (Err (faults.Refused refusal)) new = ⊥
WritesVerdicts form entries verdicts old (Err (faults.Read file offset)) new = ⊥
WritesVerdicts form entries verdicts old (Err faults.Write) new =
    PrintsFront (verdict_lines form entries verdicts) old new
WritesVerdicts form entries verdicts old (Err faults.Memory) new =
    new ≡ old ++ verdict_lines form entries verdicts

-- what is found with one line more
abbrev pub worst_of : Finding → Verdict → Finding
worst_of found Same = found
worst_of found Missing = NotWhole
worst_of Nothing Differs = Difference
worst_of Difference Differs = Difference
worst_of NotWhole Differs = NotWhole

-- The file of a line was opened, or could not be, and what is said of the line is written.
abbrev pub JudgesLine : {R : Type 0} → (List ℕ → Option R → Type 0) → (Option R → Option Opened) → Tail → Form → Entry
    → List ℕ → Result Verdict Fault → List ℕ → Type 0
JudgesLine {R = R} gives known tail form entry old (Ok verdict) new =
    (reader : Option R) × gives entry.name reader × IsVerdict tail entry (known reader) verdict
    × (new ≡ old ++ verdict_line form entry verdict)
JudgesLine gives known tail form entry old (Err (faults.Refused refusal)) new = ⊥
JudgesLine gives known tail form entry old (Err (faults.Read file offset)) new = ⊥
JudgesLine {R = R} gives known tail form entry old (Err faults.Write) new =
    (reader : Option R) × (verdict : Verdict) × gives entry.name reader
    × IsVerdict tail entry (known reader) verdict × PrintsFront (verdict_line form entry verdict) old new
JudgesLine gives known tail form entry old (Err faults.Memory) new = new ≡ old

-- The files of some lines were opened one after another, each as its opener gives it for the line's name, or could not
-- be; and what is said of each line is written.
pub record Verifies {R : Type 0} (gives : List ℕ → Option R → Type 0) (known : Option R → Option Opened)
    (tail : Tail) (form : Form) (entries : List Entry) (old : List ℕ) (result : Result Finding Fault)
    (new : List ℕ) : Type 0 where
  pub readers : List (Option R)
  pub verdicts : List Verdict
  pub opened : AreGiven gives (map (λ e. e.name) entries) readers
  pub judged : AreVerdicts tail entries (map known readers) verdicts
  pub written : WritesVerdicts form entries verdicts old result new
