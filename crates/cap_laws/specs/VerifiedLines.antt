-- What `digest --verify` says of the lines that `digest --names` printed, if the files are the same.
use Rattle.std.specs.Prelude.{◌≡◌, ◌≤◌, ℕ, List, length, map, chars, true, Some, IsTrue, IsFalse}
use Rattle.std.specs.Prelude.{IsUtf8}
use Rattle.std.specs.List.{AllByRecursion}
use Rattle.cap_bytes.specs.declared.faults.Tail.{Tail}
use Rattle.cap_check.specs.CheckText.{check_lines}
use Rattle.cap_check.specs.Checking.{AreChecked, Opened}
use Rattle.cap_check.specs.declared.checked.Check.{Check}
use Rattle.cap_check.specs.declared.checked.CheckLine.TheVariants.{Digest}
use Rattle.cap_line.specs.Shown.{spells_hidden}
use Rattle.cap_print.specs.declared.forms.Form.TheVariants.{Text}
use Rattle.cap_print.specs.declared.forms.TimeForm.TheVariants.{Exact}
use Rattle.cap_tool.specs.CheckedNames.{name_fields}
use Rattle.cap_tool.specs.DigestLines.{Entry, entries_in}
use Rattle.cap_tool.specs.Verdicts.{AreVerdicts}
use Rattle.cap_tool.specs.declared.verify.Verdict.{Verdict}
use Rattle.cap_tool.specs.declared.verify.Verdict.TheVariants.{Same}

-- A name that is a text in UTF-8, as the name of each file is that can be opened, and in which no escape of a hidden
-- character is spelled out.
abbrev pub IsPlainName : List ℕ → Type 0
IsPlainName name = IsUtf8 name × IsFalse (spells_hidden (chars name))

-- A file of which it is known which bytes it has, and of which no read fails.
abbrev pub IsReadable : Opened → Type 0
IsReadable file = IsTrue file.told × IsFalse file.can_fail

-- The lines that `digest --names` prints of files are read back: they give the names of the files, in their order. And
-- if the files have the same bytes when their lines are verified, `same` is said of each.
abbrev pub VerifiesAsSame : Type 0
VerifiesAsSame =
    (tail : Tail) (names : List (List ℕ)) (files : List Opened) (checks : List Check)
    → AllByRecursion IsPlainName names → AllByRecursion IsReadable files
    → length names ≡ length files → length files ≤ 4294967295
    → AreChecked tail true 1 (map Some files) checks
    → (entries : List Entry)
    × (entries_in (check_lines Digest (Text Exact) (name_fields (Text Exact) true names) 1 checks) ≡ map Some entries)
    × (map (λ entry. entry.name) entries ≡ names)
    × ((verdicts : List Verdict) → AreVerdicts tail entries (map Some files) verdicts
    → AllByRecursion (λ verdict. verdict ≡ Same) verdicts)
