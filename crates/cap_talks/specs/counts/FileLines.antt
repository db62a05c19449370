-- The lines of files that were counted.
use Rattle.std.specs.Prelude.{ℕ, ◌+◌, ◌-◌, Bool, false, List, [], ◌∷◌, ◌++◌, codes, length, map, replicate, Option}
use Rattle.std.specs.Prelude.{Some, None, is_some, option_map}
use Rattle.cap_print.specs.Facts.{Facts, one, number, word, moment, named, flagged, line_in}
use Rattle.cap_print.specs.declared.forms.Form.{Form}
use Rattle.cap_bytes.specs.Formats.{format_name}
use Rattle.cap_source.specs.declared.feeds.Ending.{Ending}
use Rattle.cap_source.specs.declared.feeds.FileEnd.{FileEnd}
use Rattle.cap_bytes.specs.declared.formats.Format.{Format}
use Rattle.cap_bytes.specs.declared.stops.CutRest.{CutRest}
use Rattle.cap_time.specs.Stamp.{printed_of}
use Rattle.cap_talks.specs.declared.counts.counts.Counts.{Counts}
use Rattle.cap_talks.specs.declared.counts.files.Counted.{Counted}

-- the line of the file of that number: its format, if it is known, what is counted of it, how many of its blocks were
-- skipped, and whether a rest of it was dropped
abbrev pub counts_facts : ℕ → Option Format → Counts → ℕ → Bool → Facts
counts_facts file format counts skipped was_cut =
    record {
      kind = codes "file";
      fields =
          one (record { label = codes " "; key = codes "file"; value = number file })
          ∷ one (record { label = codes " "; key = codes "format"; value = word (option_map format_name format) })
          ∷ one (named (codes "packets") (number counts.packets))
          ∷ one (named (codes "bytes") (number counts.bytes))
          ∷ one (named (codes "truncated") (number counts.truncated))
          ∷ one (named (codes "skipped") (number skipped))
          ∷ one (named (codes "first") (moment (option_map printed_of counts.first)))
          ∷ one (named (codes "last") (moment (option_map printed_of counts.last)))
          ∷ one (flagged (codes "cut") was_cut) ∷ [];
    }

-- the line of a file that has ended, or that is still being read
abbrev pub file_facts : ℕ → Counts → Option Ending → Facts
file_facts file counts None = counts_facts file counts.format counts counts.skipped false
file_facts file counts (Some ending) =
    counts_facts file (Some ending.format) counts ending.skipped (is_some ending.cut)

-- how the file of that number has ended, if that is known
abbrev pub ending_at : Option (ℕ → FileEnd) → ℕ → Option Ending
ending_at None file = None
ending_at (Some endings) file = Some (endings file).ending

-- the rest of it that was cut, and dropped, if that is known and there is one
abbrev pub cut_of : Option Ending → Option CutRest
cut_of None = None
cut_of (Some ending) = ending.cut

-- the rests of files that were counted, at 32 places; a place that no file has is empty
abbrev pub counted_cuts : List Counted → List (Option CutRest)
counted_cuts counted = map (λ it. cut_of it.ending) counted ++ replicate (32 - length counted) None

-- the line that says how many files there are
abbrev pub files_facts : ℕ → Facts
files_facts count =
    record {
      kind = codes "files";
      fields = one (record { label = codes " "; key = codes "files"; value = number count }) ∷ [];
    }

-- what is counted of files, with how each has ended, if that is known, from that number on
abbrev pub ended_from : Option (ℕ → FileEnd) → ℕ → List Counts → List Counted
ended_from endings file [] = []
ended_from endings file (counts ∷ rest) = record { counts = counts; ending = ending_at endings file }
    ∷ ended_from endings (file + 1) rest

-- the lines of files that were counted, in a form, from that number on
abbrev pub counted_texts_in : Form → ℕ → List Counted → List ℕ
counted_texts_in form file [] = []
counted_texts_in form file (it ∷ rest) = line_in form (file_facts file it.counts it.ending)
    ++ counted_texts_in form (file + 1) rest
