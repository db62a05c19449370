-- What the canonical text of packets, and so a digest, says of them, and what stays of it when a file is converted.
use Rattle.std.specs.Prelude.{◌≡◌, ◌↔◌, ◌≤◌, ◌^◌, ℕ, Bool, false, List, length, None, IsTrue}
use Rattle.std.specs.List.{AllByRecursion, AllZip}
use Rattle.cap_blocks.specs.Split.{AreBytes}
use Rattle.cap_bytes.specs.declared.faults.Tail.{Tail}
use Rattle.cap_bytes.specs.declared.faults.Tail.TheVariants.{Refuse}
use Rattle.cap_bytes.specs.declared.numbers.Order.{Order}
use Rattle.cap_digest.specs.Canonical.{canonical_text}
use Rattle.cap_digest.specs.DigestText.{digest_line, digest_text}
use Rattle.cap_laws.specs.again.Laws.{SamePackets}
use Rattle.cap_print.specs.declared.forms.Form.{Form}
use Rattle.cap_source.specs.Feed.{Item, refusal_of}
use Rattle.cap_source.specs.Items.{file_items}
use Rattle.cap_source.specs.inner.Fields.{ItemFits}
use Rattle.cap_commands.specs.declared.counting.OutputFormat.{OutputFormat}
use Rattle.cap_commands.specs.Converted.{convert_refusal, convert_text}
use Rattle.cap_commands.specs.DiffText.{comparison_of, is_same, nothing_ignored}

-- Two lists of packets, the fields of which fit in their widths, have the same canonical text exactly if their packets
-- have, one by one, the same link types, exact times, lengths and bytes.
abbrev pub SameText : List Item → List Item → Type 0
SameText items again = (canonical_text items ≡ canonical_text again) ↔ AllZip SamePackets items again

abbrev pub TextLaw : Type 0
TextLaw =
    (items again : List Item) → AllByRecursion ItemFits items → AllByRecursion ItemFits again
    → refusal_of items ≡ None → refusal_of again ≡ None → SameText items again

-- So have the packets of two files, of which none is refused.
abbrev pub FileTextLaw : Type 0
FileTextLaw =
    (tail tail_again : Tail) (file file_again : ℕ) (bytes again : List ℕ) → AreBytes bytes → AreBytes again
    → refusal_of (file_items tail file bytes) ≡ None → refusal_of (file_items tail_again file_again again) ≡ None
    → SameText (file_items tail file bytes) (file_items tail_again file_again again)

-- Two captures of which none is refused have the same canonical text exactly if `diff` says that they are the same.
abbrev pub SameAsDiff : Type 0
SameAsDiff =
    (tail : Tail) (first second : List ℕ) → AreBytes first → AreBytes second
    → refusal_of (file_items tail 1 first) ≡ None → refusal_of (file_items tail 2 second) ≡ None
    → (canonical_text (file_items tail 1 first) ≡ canonical_text (file_items tail 2 second))
    ↔ IsTrue (is_same (comparison_of nothing_ignored tail first second))

-- What `convert` writes of any file, in either format and byte order and in any unit, is a capture that isn't refused,
-- and has the digest line of the file, under every number and in either form, apart from whether a cut end was dropped;
-- if nothing is refused of the file and at most 2^40 bytes are written. So its line is that of a file that wasn't cut,
-- if no end is to be dropped of it.
abbrev pub DigestOfConverted : Type 0
DigestOfConverted =
    (format : OutputFormat) (order : Order) (tail tail_again : Tail) (bytes : List ℕ) → AreBytes bytes
    → convert_refusal format tail bytes ≡ None → length (convert_text format order tail bytes) ≤ 2 ^ 40
    → (number : ℕ)
    → (refusal_of (file_items tail_again number (convert_text format order tail bytes)) ≡ None)
    × ((form : Form) (was_cut : Bool)
    → digest_line form number (file_items tail_again number (convert_text format order tail bytes)) was_cut
    ≡ digest_line form number (file_items tail number bytes) was_cut)
    × ((form : Form)
    → digest_text form Refuse number (convert_text format order tail bytes)
    ≡ digest_line form number (file_items tail number bytes) false)
