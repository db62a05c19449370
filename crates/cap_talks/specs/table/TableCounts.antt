-- What a table tells of the packets that were taken, as numbers: what the lines of its report say.
use Rattle.std.specs.Prelude.{ℕ, ◌&&◌, nat_le, Bool, List, length, Option, Some, None, slice_get, if◌then◌else◌}
use Rattle.cap_class.specs.Counting.{counts_of}
use Rattle.cap_class.specs.Ipv6.{report_classes}
use Rattle.cap_class.specs.Taken.{Taken}
use Rattle.cap_source.specs.declared.feeds.FileEnd.{FileEnd}
use Rattle.cap_talks.specs.counts.Counting.{counted}
use Rattle.cap_talks.specs.counts.FileLines.{ending_at}
use Rattle.cap_talks.specs.table.Conversations.{Conversation, rows_of}
use Rattle.cap_talks.specs.table.CountedUnits.{given_up_in, joined_in, units_for}
use Rattle.cap_talks.specs.table.TakenText.{metas_of, taken_bytes, truncated_of}
use Rattle.cap_talks.specs.declared.counts.files.Counted.{Counted}
use Rattle.cap_talks.specs.declared.table.tables.TableTotals.{TableTotals}

-- the numbers of the lines `total`, `frames` and `joined`, in a report that reads IPv6 packets or not
abbrev pub totals_for : Bool → List Taken → TableTotals
totals_for reads xs =
    record {
      packets = length xs;
      bytes = taken_bytes xs;
      truncated = truncated_of xs;
      classes = counts_of (report_classes reads xs);
      joined = joined_in xs;
      given_up = given_up_in xs;
    }

-- what the line of a file tells, of which there are `count`: what is counted of its packets, and how it has ended, if
-- that is known
abbrev pub file_counted : ℕ → Option (ℕ → FileEnd) → List Taken → ℕ → Option Counted
file_counted count endings xs file =
    if nat_le 1 file && nat_le file count
    then Some (record { counts = counted (metas_of file xs); ending = ending_at endings file }) else None

-- the conversations, in the order of their lines
abbrev pub talks_for : Bool → List Taken → List Conversation
talks_for reads xs = rows_of (units_for reads xs)

-- the conversation of a line, counted from 0
abbrev pub talk_at : Bool → List Taken → ℕ → Option Conversation
talk_at reads xs place = slice_get (talks_for reads xs) place
