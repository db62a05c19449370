-- The report over the packets that were taken so far.
use Rattle.std.specs.Prelude.{ℕ, List, [], ◌∷◌, ◌++◌, ◌+◌, ◌==◌, Bool, true, false, nat_lt, codes, length, Option}
use Rattle.std.specs.Prelude.{if◌then◌else◌}
use Rattle.std.specs.List.{flat_map, range_with_len}
use Rattle.cap_print.specs.Facts.{Fact, Facts, one, number, named, line_in}
use Rattle.cap_print.specs.declared.forms.Form.{Form}
use Rattle.cap_print.specs.declared.forms.Form.TheVariants.{Text}
use Rattle.cap_print.specs.declared.forms.TimeForm.TheVariants.{Exact}
use Rattle.cap_source.specs.declared.feeds.FileEnd.{FileEnd}
use Rattle.cap_source.specs.declared.packets.Meta.{Meta}
use Rattle.cap_talks.specs.counts.Counting.{counted}
use Rattle.cap_talks.specs.counts.FileLines.{file_facts, files_facts, ending_at}
use Rattle.cap_talks.specs.table.TalkLines.{talk_texts_in, talks_facts}
use Rattle.cap_talks.specs.table.Conversations.{Conversation, rows_of}
use Rattle.cap_class.specs.Counting.{counts_of}
use Rattle.cap_class.specs.Ipv6.{report_classes}
use Rattle.cap_class.specs.Taken.{Taken}
use Rattle.cap_talks.specs.table.CountedUnits.{given_up_in, joined_in, units_for}
use Rattle.cap_class.specs.declared.classes.Class.{Class}
use Rattle.cap_class.specs.declared.counts.ClassCounts.{ClassCounts}
use Rattle.cap_talks.specs.declared.table.units.CountedUnit.{CountedUnit}

-- what is known of the packets of one file, in their order
abbrev pub metas_of : ℕ → List Taken → List Meta
metas_of file [] = []
metas_of file (x ∷ xs) = metas_of file xs ++ (if x.meta.file == file then x.meta ∷ [] else [])

-- the line of a file, in a form: how it ended is known once all have
abbrev pub file_line_in : Form → Option (ℕ → FileEnd) → List Taken → ℕ → List ℕ
file_line_in form endings xs file = line_in form (file_facts file (counted (metas_of file xs)) (ending_at endings file))

-- the sum of the packets' original lengths, and of how many fewer bytes were captured than they had
abbrev pub taken_bytes : List Taken → ℕ
taken_bytes [] = 0
taken_bytes (x ∷ xs) = taken_bytes xs + x.meta.original

abbrev pub truncated_of : List Taken → ℕ
truncated_of [] = 0
truncated_of (x ∷ xs) = truncated_of xs + (if nat_lt (length x.frame) x.meta.original then 1 else 0)

-- the line of the totals: how many packets there are, their bytes, and how many are truncated
abbrev pub total_facts : ℕ → ℕ → ℕ → Facts
total_facts packets bytes truncated =
    record {
      kind = codes "total";
      fields =
          one (named (codes "packets") (number packets))
          ∷ one (named (codes "bytes") (number bytes))
          ∷ one (named (codes "truncated") (number truncated)) ∷ [];
    }

-- the same in text
abbrev pub total_text : ℕ → ℕ → ℕ → List ℕ
total_text packets bytes truncated = line_in (Text Exact) (total_facts packets bytes truncated)

-- how many packets there are of networks that aren't read, IPv4 among those that are, and IPv6 if it is
abbrev pub other_network_fact : Bool → ℕ → Fact
other_network_fact false count = record { label = codes " not-ipv4 "; key = codes "not_ipv4"; value = number count }
other_network_fact true count = record { label = codes " not-ip "; key = codes "not_ip"; value = number count }

-- the line that says how many packets there are of each class, in a report that reads IPv6 packets or not
abbrev pub frames_facts_for : Bool → ClassCounts → Facts
frames_facts_for reads n =
    record {
      kind = codes "frames";
      fields =
          one (record { label = codes " other-link "; key = codes "other_link"; value = number n.other_link })
          ∷ one (other_network_fact reads n.not_ipv4)
          ∷ one (named (codes "short") (number n.short))
          ∷ one (named (codes "cut") (number n.cut))
          ∷ one (named (codes "bad") (number n.bad))
          ∷ one (named (codes "unjoined") (number n.unjoined))
          ∷ one (named (codes "counted") (number n.counted)) ∷ [];
    }

-- the same of a report that doesn't read them
abbrev pub frames_facts : ClassCounts → Facts
frames_facts n = frames_facts_for false n

-- the same in text
abbrev pub frames_text : ClassCounts → List ℕ
frames_text n = line_in (Text Exact) (frames_facts n)

-- the line that says how many datagrams were joined and how many groups given up
abbrev pub joined_facts : ℕ → ℕ → Facts
joined_facts joined given_up =
    record {
      kind = codes "joined";
      fields =
          one (record { label = codes " "; key = codes "joined"; value = number joined })
          ∷ one (record { label = codes " given-up "; key = codes "given_up"; value = number given_up }) ∷ [];
    }

-- the same in text
abbrev pub joined_text : ℕ → ℕ → List ℕ
joined_text joined given_up = line_in (Text Exact) (joined_facts joined given_up)

-- all lines but those of the files and of the conversations, in a form, by the packets' classes and units, and how many
-- datagrams were joined and how many groups given up
abbrev pub counts_for : Bool → Form → List Taken → List Class → List CountedUnit → ℕ → ℕ → List ℕ
counts_for reads form xs of_each units joined given_up =
    line_in form (total_facts (length xs) (taken_bytes xs) (truncated_of xs))
    ++ line_in form (frames_facts_for reads (counts_of of_each)) ++ line_in form (joined_facts joined given_up)
    ++ line_in form (talks_facts (length (rows_of units)))

-- the same of a report that doesn't read IPv6 packets
abbrev pub counts_by_in : Form → List Taken → List Class → List CountedUnit → ℕ → ℕ → List ℕ
counts_by_in form xs of_each units joined given_up = counts_for false form xs of_each units joined given_up

-- the same with the lines of the conversations behind them
abbrev pub body_by_in : Form → List Taken → List Class → List CountedUnit → ℕ → ℕ → List ℕ
body_by_in form xs of_each units joined given_up =
    counts_by_in form xs of_each units joined given_up ++ talk_texts_in form (rows_of units)

-- the same in text
abbrev pub body_by : List Taken → List Class → List CountedUnit → ℕ → ℕ → List ℕ
body_by xs of_each units joined given_up = body_by_in (Text Exact) xs of_each units joined given_up

-- all lines but those of the files and of the conversations, in a form
unfoldable pub counts_text_for : Bool → Form → List Taken → List ℕ
counts_text_for reads form xs =
    counts_for reads form xs (report_classes reads xs) (units_for reads xs) (joined_in xs) (given_up_in xs)

-- all lines but those of the files, in a form
unfoldable pub body_for : Bool → Form → List Taken → List ℕ
body_for reads form xs = counts_text_for reads form xs ++ talk_texts_in form (rows_of (units_for reads xs))

-- the same of a report that doesn't read IPv6 packets
abbrev pub body_text_in : Form → List Taken → List ℕ
body_text_in form xs = body_for false form xs

-- the same in text
abbrev pub body_text : List Taken → List ℕ
body_text xs = body_text_in (Text Exact) xs

-- all lines but those of the files, in a form, with the lines of these conversations and of no others
unfoldable pub body_showing_for : Bool → Form → List Conversation → List Taken → List ℕ
body_showing_for reads form talks xs = counts_text_for reads form xs ++ talk_texts_in form talks

-- the same of a report that doesn't read IPv6 packets
abbrev pub body_showing_in : Form → List Conversation → List Taken → List ℕ
body_showing_in form talks xs = body_showing_for false form talks xs

-- the lines of the files, of which there are `count`, in a form
unfoldable pub files_part_in : Form → ℕ → Option (ℕ → FileEnd) → List Taken → List ℕ
files_part_in form count endings xs = line_in form (files_facts count)
    ++ flat_map (file_line_in form endings xs) (range_with_len 1 count)

-- the same in text
abbrev pub files_part : ℕ → Option (ℕ → FileEnd) → List Taken → List ℕ
files_part count endings xs = files_part_in (Text Exact) count endings xs

-- The report over the packets that were taken of `count` files, in a form: how these ended is known once all have.
abbrev pub text_for : Bool → Form → ℕ → Option (ℕ → FileEnd) → List Taken → List ℕ
text_for reads form count endings xs = files_part_in form count endings xs ++ body_for reads form xs

-- the same of a report that doesn't read IPv6 packets
abbrev pub text_of_in : Form → ℕ → Option (ℕ → FileEnd) → List Taken → List ℕ
text_of_in form count endings xs = text_for false form count endings xs

-- the same in text
abbrev pub text_of : ℕ → Option (ℕ → FileEnd) → List Taken → List ℕ
text_of count endings xs = text_of_in (Text Exact) count endings xs

-- that report with the lines of these conversations and of no others
abbrev pub text_showing_for : Bool → Form → List Conversation → ℕ → Option (ℕ → FileEnd) → List Taken → List ℕ
text_showing_for reads form talks count endings xs =
    files_part_in form count endings xs ++ body_showing_for reads form talks xs

-- the same of a report that doesn't read IPv6 packets
abbrev pub text_showing_in : Form → List Conversation → ℕ → Option (ℕ → FileEnd) → List Taken → List ℕ
text_showing_in form talks count endings xs = text_showing_for false form talks count endings xs
