-- The digest of a file, and its line.
use Rattle.std.specs.Prelude.{ℕ, Bool, true, false, List, [], ◌∷◌, codes, length, Option, Some, None, is_some}
use Rattle.cap_bytes.specs.declared.faults.Tail.{Tail}
use Rattle.cap_digest.specs.Canonical.{canonical_text}
use Rattle.cap_print.specs.Facts.{Fact, Facts, Field, Value, flagged, hex, line_in, named, number, one, word}
use Rattle.cap_print.specs.declared.forms.Form.{Form}
use Rattle.cap_source.specs.Feed.{Item}
use Rattle.cap_source.specs.Items.{file_ending, file_items}
use Rattle.sha2.specs.Sha256.{sha256}

-- the digest of a canonical text, if one is asked for: its SHA-256
abbrev pub digest_if : Bool → List ℕ → Option (List ℕ)
digest_if true text = Some (sha256 text)
digest_if false text = None

-- what is printed of a digest: its digits, or that there is none
abbrev pub digest_value : Option (List ℕ) → Value
digest_value (Some digest) = hex digest
digest_value None = word None

abbrev pub digest_fact : Option (List ℕ) → Fact
digest_fact digest = named (codes "sha256") (digest_value digest)

-- the number of a file, the first fact of its line
abbrev pub file_fact : ℕ → Fact
file_fact file = record { label = codes " "; key = codes "file"; value = number file }

-- what a file has that is whole: its digest, how many packets, and whether a last record or block of it that is cut was
-- dropped
abbrev pub whole_fields : Option (List ℕ) → ℕ → Bool → List Field
whole_fields digest packets was_cut =
    one (digest_fact digest)
    ∷ one (named (codes "packets") (number packets))
    ∷ one (flagged (codes "cut") was_cut)
    ∷ []

-- the facts of the line of the file of that number
abbrev pub digest_facts : ℕ → List Field → Facts
digest_facts file fields = record { kind = codes "digest"; fields = one (file_fact file) ∷ fields }

-- the line of the file of that number, in a form, if it is whole, has those items, and was cut or not
abbrev pub digest_line : Form → ℕ → List Item → Bool → List ℕ
digest_line form file items was_cut =
    line_in form
    (digest_facts file (whole_fields (digest_if true (canonical_text items)) (length items) was_cut))

-- the line of the file of that number with those bytes, in a form, if it is whole
abbrev pub digest_text : Form → Tail → ℕ → List ℕ → List ℕ
digest_text form tail file bytes =
    digest_line form file (file_items tail file bytes) (is_some (file_ending tail file bytes).ending.cut)
