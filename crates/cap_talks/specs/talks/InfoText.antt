-- What `info` prints of files, each read by itself.
use Rattle.std.specs.Prelude.{ℕ, ◌+◌, List, [], ◌∷◌, ◌++◌, length, Option, Some, None}
use Rattle.cap_bytes.specs.declared.faults.Refusal.{Refusal}
use Rattle.cap_bytes.specs.declared.faults.Tail.{Tail}
use Rattle.cap_print.specs.Facts.{line_in}
use Rattle.cap_print.specs.declared.forms.Form.{Form}
use Rattle.cap_print.specs.declared.forms.Form.TheVariants.{Text}
use Rattle.cap_print.specs.declared.forms.TimeForm.TheVariants.{Exact}
use Rattle.cap_talks.specs.counts.Counting.{packets_of, counted}
use Rattle.cap_talks.specs.counts.FileLines.{file_facts, files_facts}
use Rattle.cap_source.specs.Feed.{refusal_of}
use Rattle.cap_source.specs.Items.{file_items, file_ending}

-- the lines of files of those bytes, in a form, from that number on
abbrev pub file_texts_in : Form → Tail → ℕ → List (List ℕ) → List ℕ
file_texts_in form tail file [] = []
file_texts_in form tail file (bytes ∷ files) =
    line_in form (file_facts file (counted (packets_of (file_items tail file bytes)))
    (Some (file_ending tail file bytes).ending))
    ++ file_texts_in form tail (file + 1) files

-- what is printed of all files, in a form
abbrev pub info_text_in : Form → Tail → List (List ℕ) → List ℕ
info_text_in form tail files = line_in form (files_facts (length files)) ++ file_texts_in form tail 1 files

-- the same in text
abbrev pub info_text : Tail → List (List ℕ) → List ℕ
info_text tail files = info_text_in (Text Exact) tail files

-- a file's refusal, or else that of a later one
abbrev pub or_else : Option Refusal → Option Refusal → Option Refusal
or_else None later = later
or_else (Some refusal) later = Some refusal

-- the refusal of the first of the files that is refused, from that number on
abbrev pub first_refusal : Tail → ℕ → List (List ℕ) → Option Refusal
first_refusal tail file [] = None
first_refusal tail file (bytes ∷ files) = or_else (refusal_of (file_items tail file bytes))
    (first_refusal tail (file + 1) files)
