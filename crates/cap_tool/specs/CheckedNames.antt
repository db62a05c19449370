-- `capt digest` and `capt check`, whose files are opened one after another.
use Rattle.std.specs.Prelude.{◌≡◌, ◌&&◌, ◌||◌, not, IsTrue, IsFalse, ◌+◌, ◌-◌, ℕ, get_or, List, [], ◌∷◌, length, map}
use Rattle.std.specs.Prelude.{option_map, Option, Some, None, Bool, Result, Ok, Err}
use Rattle.cap_bytes.specs.declared.faults.Fault.{Fault}
use Rattle.cap_bytes.specs.declared.faults.Tail.{Tail}
use Rattle.cap_check.specs.CheckText.{WritesCheck, WritesChecks}
use Rattle.cap_check.specs.Checking.{Opened}
use Rattle.cap_check.specs.declared.checked.CheckLine.{CheckLine}
use Rattle.cap_print.specs.declared.forms.Form.{Form}
use Rattle.cap_commands.specs.Jobs.{found_in, whole_by}
use Rattle.cap_commands.specs.Left.{done_of}
use Rattle.cap_tool.specs.NameFields.{name_field}
use Rattle.cap_tool.specs.Streams.{is_dash, is_standard}
use Rattle.cap_commands.specs.declared.jobs.Finding.{Finding}
use Rattle.cap_tool.specs.declared.streams.Input.{Input}

-- A file of that name was opened by the system: standard input, which isn't closed, exactly if the name is `-`. Or it
-- could not be, and then its name isn't `-`, unless standard input is closed.
abbrev pub IsOpenedBy : Bool → List ℕ → Option Input → Type 0
IsOpenedBy is_closed name (Some input) =
    (is_standard input ≡ is_dash name) × IsFalse (is_closed && is_dash name)
IsOpenedBy is_closed name None = IsTrue (is_closed || not (is_dash name))

-- The files of the first of some names were opened, in their order, or could not be: each is what its opener gives for
-- its name.
abbrev pub AreGiven : {R : Type 0} → (List ℕ → Option R → Type 0) → List (List ℕ) → List (Option R) → Type 0
AreGiven gives names [] = Unit {0}
AreGiven gives [] (reader ∷ readers) = ⊥
AreGiven gives (name ∷ names) (reader ∷ readers) = gives name reader × AreGiven gives names readers

-- the last fields of the lines of files of those names, by the numbers of these, which are counted from 1
abbrev pub name_fields : Form → Bool → List (List ℕ) → ℕ → List ℕ
name_fields form is_shown names file = name_field form is_shown (get_or names (file - 1) [])

-- The file at a place of those names was opened, or could not be, and checked, and that line of it was written, which
-- names it in JSON, and in text if that is asked for. What is known of what it is read from says which bytes these are.
pub record ChecksName {R : Type 0} (gives : List ℕ → Option R → Type 0) (known : R → Opened) (which : CheckLine)
    (form : Form) (tail : Tail) (is_shown : Bool) (names : List (List ℕ)) (place : ℕ) (old : List ℕ)
    (result : Result Bool Fault) (new : List ℕ) : Type 0 where
  pub reader : Option R
  pub opened : gives (get_or names place []) reader
  pub checks : WritesCheck which form tail (place + 1) (name_fields form is_shown names (place + 1))
      (option_map known reader) old result new

-- all names were gone through, unless there was a fault
abbrev pub AreAll : Result Finding Fault → ℕ → ℕ → Type 0
AreAll (Ok found) count opened = opened ≡ count
AreAll (Err fault) count opened = Unit {0}

-- Files of those names were opened one after another and checked, and those lines of them were written; a file that
-- could not be opened has a line too. Each is what its opener gives for its name, and what is known of that says which
-- bytes it has. A line names its file in JSON, and in text if that is asked for.
pub record ChecksNames {R : Type 0} (gives : List ℕ → Option R → Type 0) (known : R → Opened) (which : CheckLine)
    (form : Form) (tail : Tail) (is_shown : Bool) (names : List (List ℕ)) (old : List ℕ)
    (result : Result Finding Fault) (new : List ℕ) : Type 0 where
  pub readers : List (Option R)
  pub opened : AreGiven gives names readers
  pub all : AreAll result (length names) (length readers)
  pub checks : WritesChecks which form tail (name_fields form is_shown names) (map (option_map known) readers) old
      (whole_by (done_of result) (found_in result)) new
