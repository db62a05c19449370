-- What stays of the report when packets are written with their times in another form.
use Rattle.std.specs.Prelude.{◌≡◌, ℕ, ◌≤◌, ◌^◌, Bool, List, [], ◌∷◌, ◌++◌, length, Option, None}
use Rattle.std.specs.List.{AllZip}
use Rattle.std.specs.declared.cmp.Ordering.TheVariants.{Equal}
use Rattle.cap_blocks.specs.Split.{AreBytes}
use Rattle.cap_bytes.specs.declared.faults.Tail.{Tail}
use Rattle.cap_bytes.specs.declared.numbers.Order.{Order}
use Rattle.cap_time.specs.Clock.{clock_cmp}
use Rattle.cap_merge.specs.Files.{clocked_run}
use Rattle.cap_merge.specs.Run.{Clocked}
use Rattle.cap_source.specs.Feed.{Item}
use Rattle.cap_source.specs.Items.{file_first, file_items}
use Rattle.cap_class.specs.Counting.{counts_of}
use Rattle.cap_class.specs.Ipv6.{report_classes}
use Rattle.cap_print.specs.Facts.{line_in}
use Rattle.cap_print.specs.declared.forms.Form.TheVariants.{Text}
use Rattle.cap_print.specs.declared.forms.TimeForm.TheVariants.{Exact}
use Rattle.cap_talks.specs.table.CountedUnits.{joined_in, given_up_in, units_for}
use Rattle.cap_class.specs.Runs.{taken_after}
use Rattle.cap_talks.specs.table.TakenText.{body_for, frames_facts_for, joined_text, taken_bytes, total_text}
use Rattle.cap_talks.specs.table.TakenText.{truncated_of}
use Rattle.cap_talks.specs.table.TalkLines.{talk_texts, talks_text}
use Rattle.cap_class.specs.Taken.{Taken}
use Rattle.cap_talks.specs.table.Conversations.{Conversation, rows_of}
use Rattle.cap_time.specs.declared.stamps.Unit.{Unit as Fraction}
use Rattle.cap_write.specs.Pcap.{first_in_unit, pcap_bytes, pcap_refusal}
use Rattle.cap_laws.specs.Reports.{refused_at}

-- Two rows of conversations have the same protocol and ends, the same counts and places, and the same times, maybe in
-- another form.
pub record IsSameTalk (talk again : Conversation) : Type 0 where
  pub key : talk.0 ≡ again.0
  pub forward_frames : talk.1.forward_frames ≡ again.1.forward_frames
  pub forward_bytes : talk.1.forward_bytes ≡ again.1.forward_bytes
  pub backward_frames : talk.1.backward_frames ≡ again.1.backward_frames
  pub backward_bytes : talk.1.backward_bytes ≡ again.1.backward_bytes
  pub first : clock_cmp talk.1.first again.1.first ≡ Equal
  pub first_place : talk.1.first_place ≡ again.1.first_place
  pub last : clock_cmp talk.1.last again.1.last ≡ Equal
  pub last_place : talk.1.last_place ≡ again.1.last_place

-- the lines `total`, `frames`, `joined` and `talks` of a report, which reads IPv6 packets or not
abbrev pub counts_text : Bool → List Taken → List ℕ
counts_text reads xs =
    total_text (length xs) (taken_bytes xs) (truncated_of xs)
    ++ line_in (Text Exact) (frames_facts_for reads (counts_of (report_classes reads xs)))
    ++ joined_text (joined_in xs) (given_up_in xs)
    ++ talks_text (length (rows_of (units_for reads xs)))

-- All lines but those of the files are these, and then those of the conversations.
abbrev pub BodyParts : Type 0
BodyParts =
    (reads : Bool) (xs : List Taken)
    → body_for reads (Text Exact) xs ≡ counts_text reads xs ++ talk_texts (rows_of (units_for reads xs))

-- The reports of two runs have the same such lines, and `talk` lines of the same conversations, one by one, or are
-- refused at the same place by the same rule, whether they read IPv6 packets or not.
pub record SameButForms (run again : List (Clocked Item)) : Type 0 where
  pub lines : (reads : Bool) → counts_text reads (taken_after [] again) ≡ counts_text reads (taken_after [] run)
  pub talks : (reads : Bool)
      → AllZip IsSameTalk (rows_of (units_for reads (taken_after [] run)))
      (rows_of (units_for reads (taken_after [] again)))
  pub refused : (reads : Bool) → refused_at reads again ≡ refused_at reads run

-- The pcap file that is written of one file, in whatever unit, if nothing is refused and it is at most 2^40 bytes long,
-- has the file's report, but for the forms of times.
abbrev pub PcapReport : Type 0
PcapReport =
    (order : Order) (unit : Option Fraction) (tail tail_again : Tail) (bytes : List ℕ) → AreBytes bytes
    → (let items = file_items tail 1 bytes in
    let first = first_in_unit unit (file_first tail 1 bytes) in
    let text = pcap_bytes order first items in
    pcap_refusal 1 first items ≡ None → length text ≤ 2 ^ 40
    → SameButForms (clocked_run tail (bytes ∷ [])) (clocked_run tail_again (text ∷ [])))
