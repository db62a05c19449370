-- The lines that `capt digest --names` printed, as `--verify` reads them.
use Rattle.std.specs.Prelude.{◌≡◌, ◌==◌, ◌+◌, ℕ, List, [], ◌∷◌, ◌++◌, chars, codes, drop, length, map, if◌then◌else◌}
use Rattle.std.specs.Prelude.{Option, Some, None, false, is_none, option_map, string_bytes}
use Rattle.std.specs.List.{position, starts_with}
use Rattle.std.specs.Option.{option_and_then}
use Rattle.std.specs.Str.{bytes_eq, is_utf8}
use Rattle.cap_line.specs.Jobs.{number_in}
use Rattle.cap_line.specs.Shown.{shown_text, unshown_text}
use Rattle.cap_tool.specs.ListedNames.{pieces}
use Rattle.cap_tool.specs.declared.digest_lines.DigestLine.{DigestLine}

-- what stands in a text before and behind the first place at which a part stands in it
unfoldable pub split_first : List ℕ → List ℕ → Option (List ℕ × List ℕ)
split_first part [] = None
split_first part (b ∷ bytes) =
    if starts_with ◌==◌ (b ∷ bytes) part then Some ([], drop (length part) (b ∷ bytes))
    else option_map (λ parts. (b ∷ parts.0, parts.1)) (split_first part bytes)

-- the number of a file by what stands before its name, `digest N ` and more: one without zeros before it
abbrev pub number_by : List ℕ × List ℕ → Option ℕ
number_by words = if starts_with ◌==◌ words.0 (codes "0") then None else number_in words.0

abbrev pub number_before : List ℕ → Option ℕ
number_before front =
    if starts_with ◌==◌ front (codes "digest ") then
    option_and_then number_by (split_first (codes " ") (drop 7 front)) else None

-- The number of a file, and its name as a terminal shows it, which stands behind the first ` name `: a file's other
-- fields have none.
abbrev pub named_by : List ℕ × List ℕ → Option (ℕ × List ℕ)
named_by parts = option_map (λ number. (number, parts.1)) (number_before parts.0)

abbrev pub fields_of : List ℕ → Option (ℕ × List ℕ)
fields_of line = option_and_then named_by (split_first (codes " name ") line)

-- What a line of a list has: the file's number and name, and the whole line with its end.
pub record Entry : Type 0 where
  pub number : ℕ
  pub name : List ℕ
  pub text : List ℕ

-- What a line has whose fields are those: the name is the one of which that text is shown.
abbrev pub entry_by : List ℕ → ℕ × List ℕ → Option Entry
entry_by line fields =
    if bytes_eq (shown_text false fields.1) fields.1 then
    Some (record { number = fields.0; name = unshown_text fields.1; text = line ++ codes "\n" }) else None

-- what a line has, if it is one that `digest --names` can have printed, as far as it takes to know its file
abbrev pub entry_in : List ℕ → Option Entry
entry_in line = if is_utf8 line then option_and_then (entry_by line) (fields_of line) else None

-- what each line of a list has; an end of a line, 10, ends each
abbrev pub entries_in : List ℕ → List (Option Entry)
entries_in bytes = map entry_in (pieces 10 bytes)

-- what a line has that was read
abbrev pub entry_of : DigestLine → Entry
entry_of line =
    record { number = line.number; name = string_bytes line.name; text = string_bytes line.text }

-- That line of a list, from 1, is the first that `digest --names` doesn't print.
abbrev pub IsFirstOther : List ℕ → ℕ → Type 0
IsFirstOther bytes line = (place : ℕ) × (position is_none (entries_in bytes) ≡ Some place) × (line ≡ place + 1)
