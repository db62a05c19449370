-- The line of a file that was checked: which line, and what it says.
use Rattle.std.specs.Prelude.{◌≡◌, ◌==◌, ◌+◌, ◌<◌, ℕ, List, [], ◌∷◌, ◌++◌, codes, length, map, take, Bool, true, false}
use Rattle.std.specs.Prelude.{Option, Some, None, is_some, option_map, if◌then◌else◌, Result, Ok, Err}
use Rattle.cap_bytes.specs.Printing.{PrintsFront}
use Rattle.cap_bytes.specs.Rules.{rule_name, rule_number}
use Rattle.cap_bytes.specs.declared.faults.Fault.{Fault}
use Rattle.cap_bytes.specs.declared.faults.Fault.TheVariants.{Memory, Read, Refused, Write}
use Rattle.cap_bytes.specs.declared.faults.Tail.{Tail}
use Rattle.cap_digest.specs.DigestText.{digest_fact, digest_facts, file_fact, whole_fields}
use Rattle.cap_print.specs.Facts.{Fact, Facts, Field, begin_in, end_in, fields_in, flagged, group, moment, named}
use Rattle.cap_print.specs.Facts.{number, one, word}
use Rattle.cap_print.specs.declared.forms.Form.{Form}
use Rattle.cap_bytes.specs.Formats.{format_name}
use Rattle.cap_source.specs.declared.feeds.FileEnd.{FileEnd}
use Rattle.cap_time.specs.Stamp.{printed_of}
use Rattle.cap_check.specs.Checking.{AreChecked, IsChecked, Opened, are_whole, is_whole_end}
use Rattle.cap_check.specs.declared.checked.Check.{Check}
use Rattle.cap_check.specs.declared.checked.CheckEnd.{CheckEnd}
use Rattle.cap_check.specs.declared.checked.CheckEnd.TheVariants.{Opening, Reading, Refusing, Whole}
use Rattle.cap_check.specs.declared.checked.CheckLine.{CheckLine}
use Rattle.cap_check.specs.declared.checked.CheckLine.TheVariants.{Counts, CountsAndDigest, Digest}

-- whether a line has the digest of the file's packets
abbrev pub asks_digest : CheckLine → Bool
asks_digest Counts = false
asks_digest CountsAndDigest = true
asks_digest Digest = true

-- What a file has of blocks and interfaces up to its end, to its refusal, or to a read that failed. Nothing is known of
-- one that is refused at its first byte, nor of one of which not even the header or the first block was read.
abbrev pub known_end : CheckEnd → Option FileEnd
known_end (Whole end) = Some end
known_end (Refusing refusal end) = if refusal.offset == 0 then None else Some end
known_end (Reading offset end) = end
known_end Opening = None

-- the format of a file by its name, how many of its blocks are skipped, and how many interface blocks it has (1 in a
-- pcap file), up to there
abbrev pub end_format_name : FileEnd → List ℕ
end_format_name end = format_name end.ending.format

abbrev pub end_skipped : Option FileEnd → ℕ
end_skipped (Some end) = end.ending.skipped
end_skipped None = 0

abbrev pub end_interfaces : Option FileEnd → ℕ
end_interfaces (Some end) = end.interfaces
end_interfaces None = 0

-- how it ends: whole, a rest of it dropped or not; refused, at an offset and by a rule; by a read that failed, at an
-- offset; or it could not be opened
abbrev pub end_fields : CheckEnd → List Field
end_fields (Whole end) =
    one (flagged (codes "whole") true) ∷ one (flagged (codes "cut") (is_some end.ending.cut)) ∷ []
end_fields (Refusing refusal end) =
    group (codes "refused")
    (record { label = codes " refused offset "; key = codes "offset"; value = number refusal.offset })
    (named (codes "rule") (number (rule_number refusal.rule))
    ∷ record { label = codes " "; key = codes "name"; value = word (Some (rule_name refusal.rule)) } ∷ [])
    ∷ []
end_fields (Reading offset end) =
    group (codes "read")
    (record { label = codes " read offset "; key = codes "offset"; value = number offset }) [] ∷ []
end_fields Opening = one (flagged (codes "open") true) ∷ []

-- what a file has: its number and format, how many packets, the sum of their original lengths, their least and their
-- greatest time
abbrev pub held_facts : ℕ → Check → List Fact
held_facts file check =
    file_fact file
    ∷ record {
      label = codes " ";
      key = codes "format";
      value = word (option_map end_format_name (known_end check.end));
    }
    ∷ named (codes "packets") (number check.counts.packets)
    ∷ named (codes "bytes") (number check.counts.bytes)
    ∷ named (codes "first") (moment (option_map printed_of check.counts.first))
    ∷ named (codes "last") (moment (option_map printed_of check.counts.last)) ∷ []

-- its digest, in a line of what is counted that has it
abbrev pub digest_fields : CheckLine → Check → List Field
digest_fields Counts check = []
digest_fields CountsAndDigest check = one (digest_fact check.digest) ∷ []
digest_fields Digest check = []

-- what is odd about it: its packets that go backward, have no time or were captured in part, its skipped blocks and its
-- interfaces; its digest, in a line that has it; and how it ends
abbrev pub odd_fields : CheckLine → Check → List Field
odd_fields which check =
    one (named (codes "backward") (number check.counts.backward))
    ∷ one (named (codes "untimed") (number check.counts.untimed))
    ∷ one (named (codes "truncated") (number check.counts.truncated))
    ∷ one (named (codes "skipped") (number (end_skipped (known_end check.end))))
    ∷ one (named (codes "interfaces") (number (end_interfaces (known_end check.end))))
    ∷ (digest_fields which check ++ end_fields check.end)

-- the facts of the line of the file of that number that has what is counted
abbrev pub count_facts : CheckLine → ℕ → Check → Facts
count_facts which file check =
    record { kind = codes "check"; fields = map one (held_facts file check) ++ odd_fields which check }

-- what a line has that has the digest alone: what a whole file has, or how it ends
abbrev pub digest_end_fields : Check → CheckEnd → List Field
digest_end_fields check (Whole end) = whole_fields check.digest check.counts.packets (is_some end.ending.cut)
digest_end_fields check (Refusing refusal end) = end_fields (Refusing refusal end)
digest_end_fields check (Reading offset end) = end_fields (Reading offset end)
digest_end_fields check Opening = end_fields Opening

-- the facts of either
abbrev pub check_facts : CheckLine → ℕ → Check → Facts
check_facts Counts file check = count_facts Counts file check
check_facts CountsAndDigest file check = count_facts CountsAndDigest file check
check_facts Digest file check = digest_facts file (digest_end_fields check check.end)

-- its line in a form, with a last field, which names the file, in that form; it is empty if the file isn't named
abbrev pub check_line_in : CheckLine → Form → ℕ → List ℕ → Check → List ℕ
check_line_in which form file name check =
    begin_in form (check_facts which file check).kind
    (fields_in form (check_facts which file check).fields (name ++ end_in form))

-- The last fields of the lines of files, by the numbers of these: no file is named.
abbrev pub no_names : ℕ → List ℕ
no_names file = []

-- the lines of files that were checked and have the numbers from that one on
abbrev pub check_lines : CheckLine → Form → (ℕ → List ℕ) → ℕ → List Check → List ℕ
check_lines which form names file [] = []
check_lines which form names file (check ∷ checks) =
    check_line_in which form file (names file) check ++ check_lines which form names (file + 1) checks

-- The file of that number is checked, and its line is written, whatever it holds, with a last field; and it is returned
-- whether it is whole. If a growth is refused nothing is written, and if the writer failed a prefix is.
abbrev pub WritesCheck : CheckLine → Form → Tail → ℕ → List ℕ → Option Opened → List ℕ → Result Bool Fault → List ℕ
    → Type 0
WritesCheck which form tail file name opened old (Ok is_whole) new =
    (check : Check) × IsChecked tail (asks_digest which) file opened check × (is_whole ≡ is_whole_end check.end)
    × (new ≡ old ++ check_line_in which form file name check)
WritesCheck which form tail file name opened old (Err (Refused refusal)) new = ⊥
WritesCheck which form tail file name opened old (Err (Read f offset)) new = ⊥
WritesCheck which form tail file name opened old (Err Write) new =
    (check : Check) × IsChecked tail (asks_digest which) file opened check
    × PrintsFront (check_line_in which form file name check) old new
WritesCheck which form tail file name opened old (Err Memory) new = new ≡ old

-- All files, which have the numbers from 1 on, are checked, and their lines are written, with these last fields; and it
-- is returned whether each is whole. If a growth is refused, the lines of the first of them are written; if the writer
-- failed, a prefix of those is.
abbrev pub WritesChecks : CheckLine → Form → Tail → (ℕ → List ℕ) → List (Option Opened) → List ℕ → Result Bool Fault
    → List ℕ → Type 0
WritesChecks which form tail names files old (Ok is_whole) new =
    (checks : List Check) × AreChecked tail (asks_digest which) 1 files checks × (is_whole ≡ are_whole checks)
    × (new ≡ old ++ check_lines which form names 1 checks)
WritesChecks which form tail names files old (Err (Refused refusal)) new = ⊥
WritesChecks which form tail names files old (Err (Read f offset)) new = ⊥
WritesChecks which form tail names files old (Err Write) new =
    (n : ℕ) × (checks : List Check) × AreChecked tail (asks_digest which) 1 (take n files) checks
    × PrintsFront (check_lines which form names 1 checks) old new
WritesChecks which form tail names files old (Err Memory) new =
    (n : ℕ) × (checks : List Check) × (n < length files) × AreChecked tail (asks_digest which) 1 (take n files) checks
    × (new ≡ old ++ check_lines which form names 1 checks)
