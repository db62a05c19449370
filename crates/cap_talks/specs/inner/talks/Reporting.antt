-- What taking all packets of a run returns.
use Rattle.std.specs.Prelude.{◌≡◌, ℕ, List, [], Bool, true, IsTrue, Option, Some, None, Result, Ok, Err, ⊤, length}
use Rattle.cap_bytes.specs.declared.faults.Fault.{Fault}
use Rattle.cap_bytes.specs.declared.faults.Fault.TheVariants.{Refused, Read, Write, Memory}
use Rattle.cap_merge.specs.Parts.{Part, merged_feed, run_of}
use Rattle.cap_print.specs.declared.forms.Form.{Form}
use Rattle.cap_source.specs.inner.Growing.{IsAtPacket}
use Rattle.cap_source.specs.declared.feeds.Head.TheVariants as heads
use Rattle.cap_class.specs.Runs.{taken_after}
use Rattle.cap_talks.specs.talks.ReportText.{refusal_for, report_for, report_refusal_for}
use Rattle.cap_talks.specs.talks.Telling.{Tells}
use Rattle.cap_talks.specs.table.OtherNetworks.{counts_if}
use Rattle.cap_talks.specs.talks.CutRests.{rests_by_place}
use Rattle.cap_talks.specs.declared.talks.reports.ReportLeft.{ReportLeft}
use Rattle.cap_talks.specs.inner.table.Stepping.{TableState, TableStands}

-- All packets of a run that isn't refused were taken, by a table that stood for none.
pub record TookAll (old new : TableState) : Type 0 where
  pub known : (merged_feed new.parts).known ≡ Some heads.End
  pub done : new.done ≡ true
  pub files : length new.totals.files ≡ length old.totals.files
  pub reads : new.tally.reads ≡ old.tally.reads
  pub free : IsTrue (merged_feed old.parts).told → TableStands old [] → refusal_for old.tally.reads []
      (run_of old.parts) ≡ None
  pub stands : IsTrue (merged_feed old.parts).told → TableStands old []
      → TableStands new (taken_after [] (run_of old.parts))
  pub endings : IsTrue (merged_feed old.parts).told → (file : ℕ)
      → (merged_feed new.parts).endings file ≡ (merged_feed old.parts).endings file

abbrev pub TakesAll : {A : Type 0} → TableState → Result A Fault → TableState → Type 0
TakesAll old (Ok _) new = TookAll old new
TakesAll old (Err (Refused refusal)) new =
    IsTrue (merged_feed old.parts).told → TableStands old [] → refusal_for old.tally.reads [] (run_of old.parts)
    ≡ Some refusal
TakesAll old (Err (Read file offset)) new = ⊤
TakesAll old (Err Write) new = ⊥
TakesAll old (Err Memory) new = IsAtPacket (merged_feed new.parts).known

-- What is left of the run of that many files: the rests that were cut of them, and the packets of networks other than
-- IPv4, if they are counted.
pub record LeavesReport (counts : Bool) (count : ℕ) (ps : List Part) (left : ReportLeft) : Type 0 where
  pub cuts : left.cuts ≡ rests_by_place (merged_feed ps).endings count
  pub networks : left.not_ipv4 ≡ counts_if counts (taken_after [] (run_of ps))

-- The report of the run of that many files is written, that reads IPv6 packets or not, in a form, with the lines of all
-- conversations, or of those with the most bytes.
abbrev pub TellsReport : {A : Type 0} → Bool → Form → Option ℕ → ℕ → List Part → List ℕ → Result A Fault → List ℕ
    → Type 0
TellsReport reads form top count ps held result new =
    Tells (report_for reads form top count (merged_feed ps).endings (run_of ps)) (report_refusal_for reads (run_of ps))
    held result new
