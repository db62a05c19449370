-- The report over files that are read.
use Rattle.std.proofs.Common.{◌≡◌, ℕ, Bool, List, [], length, map, IsTrue, IsOkUnless, Option, Some}
use Rattle.std.proofs.Common.{None, Result, Ok, Err, ap, refl, ◌∙◌, subst, arith}
use Rattle.std.specs.Prelude.{IfOk, if◌then◌else◌}
use Rattle.std.specs.List.{list_all}
use Rattle.std.proofs.lemmas.List.{length-map}
use Rattle.std.proofs.lemmas.List.FromFn.{length-range_with_len}
use Rattle.cap_bytes.specs.Device.{Writer, WriterKeeps}
use Rattle.cap_bytes.specs.Printing.{Prints, is_write}
use Rattle.cap_bytes.specs.declared.faults.Fault.{Fault}
use Rattle.cap_bytes.specs.declared.faults.Fault.TheVariants.{Memory, Read, Refused, Write}
use Rattle.cap_bytes.specs.declared.faults.Refusal.{Refusal}
use Rattle.cap_bytes.specs.declared.faults.Tail.{Tail}
use Rattle.cap_print.specs.declared.forms.Form.{Form}
use Rattle.cap_source.proofs.Onward.{Lasts-goes}
use Rattle.cap_merge.proofs.Unread.{told-readers, bytes-readers}
use Rattle.cap_merge.specs.Files.{clocked_run, endings_of_files}
use Rattle.cap_merge.specs.Parts.{Part, merged_feed, run_of}
use Rattle.cap_merge.specs.inner.Readers.{ReaderFacts, IsUnreadRun}
use Rattle.cap_source.specs.Feed.{Feed}
use Rattle.cap_source.specs.inner.Walk.{Walks}
use Rattle.cap_talks.specs.inner.talks.Reporting.{LeavesReport, TookAll, TakesAll, TellsReport}
use Rattle.cap_talks.specs.table.OtherNetworks.{counts_if}
use Rattle.cap_talks.specs.declared.talks.reports.ReportLeft.{ReportLeft}
use Rattle.cap_merge.specs.Run.{Clocked}
use Rattle.cap_source.specs.Feed.{Item}
use Rattle.cap_source.specs.declared.feeds.FileEnd.{FileEnd}
use Rattle.cap_talks.specs.talks.ReportText.{report_for, report_refusal_for}
use Rattle.cap_class.specs.Runs.{taken_after}
use Rattle.cap_talks.specs.table.Conversations.{rows_of}
use Rattle.cap_talks.specs.table.CountedUnits.{units_for}
use Rattle.cap_talks.specs.table.TakenText.{text_showing_for}
use Rattle.cap_talks.specs.table.TopRows.{shown_rows}
use Rattle.cap_talks.proofs.TableTexts.{text-all}
use Rattle.cap_talks.specs.inner.table.Stepping.{TableState, TableStands, endings_so_far}
use Rattle.cap_class.specs.Taken.{Taken}
use Rattle.cap_talks.specs.talks.Telling.{Tells}
use Rattle.cap_talks.proofs.CutRests.{ended-cuts}
use Rattle.cap_talks.specs.counts.FileLines.{counted_cuts, ended_from}
use Rattle.cap_talks.specs.talks.CutRests.{rests_by_place}
use Rattle.cap_talks.proofs.Telling.{tells-fault, tells-printed}

-- Files of which nothing was read yet.
module _ {A : Type 0} (reader : A → ReaderFacts) (tail : Tail) (sources : List A) (ps : List Part)
    (unread : IsUnreadRun tail (map reader sources) ps) where
  run-is : run_of ps ≡ clocked_run tail (map (λ s. (reader s).bytes) sources)
  run-is = unread.run ∙ ap (clocked_run tail) (bytes-readers reader sources)

  endings-are : (merged_feed ps).endings ≡ endings_of_files tail (map (λ s. (reader s).bytes) sources)
  endings-are = grind (arith, bytes-readers)

  count-is : length (merged_feed ps).files ≡ length sources
  count-is = ap length unread.files ∙ length-range_with_len 1 (length (map reader sources)) ∙ length-map sources reader

  -- the report of their run is theirs
  pub tells-files : {B : Type 0} (reads : Bool) (form : Form) (top : Option ℕ) (held out : List ℕ)
      (result : Result B Fault)
      → (IsTrue (merged_feed ps).told → TellsReport reads form top (length (merged_feed ps).files) ps held result out)
      → IsTrue (list_all (λ s. (reader s).told) sources)
      → Tells (report_for reads form top (length sources)
      (endings_of_files tail (map (λ s. (reader s).bytes) sources))
      (clocked_run tail (map (λ s. (reader s).bytes) sources)))
      (report_refusal_for reads (clocked_run tail (map (λ s. (reader s).bytes) sources))) held result out
  tells-files reads form top held out result tells t =
      subst (λ (e : List ℕ × Option Refusal). Tells e.0 e.1 held result out)
      (λ i. (report_for reads form top (count-is i) (endings-are i) (run-is i), report_refusal_for reads (run-is i)))
      (tells (told-readers reader tail sources ps unread t))

  -- and so are the rests that were cut
  pub cuts-files : (counts : Bool) (result : Result ReportLeft Fault)
      → IfOk result (λ left. IsTrue (merged_feed ps).told
      → LeavesReport counts (length (merged_feed ps).files) ps left)
      → IfOk result (λ left. IsTrue (list_all (λ s. (reader s).told) sources)
      → left.cuts ≡ rests_by_place (endings_of_files tail (map (λ s. (reader s).bytes) sources)) (length sources))
  cuts-files counts (Ok left) is = λ t. (is (told-readers reader tail sources ps unread t)).cuts
      ∙ (λ i. rests_by_place (endings-are i) (count-is i))
  cuts-files counts (Err fault) is = tt

  -- and the packets of networks other than IPv4
  pub networks-files : (counts : Bool) (result : Result ReportLeft Fault)
      → IfOk result (λ left. IsTrue (merged_feed ps).told
      → LeavesReport counts (length (merged_feed ps).files) ps left)
      → IfOk result (λ left. IsTrue (list_all (λ s. (reader s).told) sources)
      → left.not_ipv4
      ≡ counts_if counts (taken_after [] (clocked_run tail (map (λ s. (reader s).bytes) sources))))
  networks-files counts (Ok left) is = λ t. (is (told-readers reader tail sources ps unread t)).networks
      ∙ ap (λ run. counts_if counts (taken_after [] run)) run-is
  networks-files counts (Err fault) is = tt

-- the rests of files of which all packets were taken
pub took-cuts : (old new : TableState) → TookAll old new → IsTrue (merged_feed old.parts).told
    → counted_cuts (ended_from (endings_so_far new) 1 new.totals.files)
    ≡ rests_by_place (merged_feed old.parts).endings (length old.totals.files)
took-cuts old new took t =
    let endings = ap (λ (d : Bool). if d then Some (merged_feed new.parts).endings else None) took.done
    ∙ ap Some (λ i file. took.endings t file i) in
    ap (λ e. counted_cuts (ended_from e 1 new.totals.files)) endings
    ∙ (ended-cuts (merged_feed old.parts).endings new.totals.files
    ∙ ap (rests_by_place (merged_feed old.parts).endings) took.files)

-- the report of a run with the lines of the conversations that are shown
text-shown : (reads : Bool) (form : Form) (top : Option ℕ) (count : ℕ) (endings : ℕ → FileEnd)
    (run : List (Clocked Item))
    → text_showing_for reads form (shown_rows top (rows_of (units_for reads (taken_after [] run)))) count (Some endings)
    (taken_after [] run)
    ≡ report_for reads form top count endings run
text-shown reads form None count endings run = text-all reads form count (Some endings) (taken_after [] run)
text-shown reads form (Some most) count endings run = refl

-- all packets of a table were taken: the report is written
pub tells-report : (form : Form) (top : Option ℕ) (old new : TableState) (held out : List ℕ)
    (result : Result (Unit {0}) Fault)
    → IsTrue (merged_feed old.parts).told → TableStands old []
    → TookAll old new → IsOkUnless result Write
    → ((xs : List Taken) → TableStands new xs → Prints
    (text_showing_for new.tally.reads form (shown_rows top new.tally.talks.rows) (length new.totals.files)
    (endings_so_far new) xs) None held result out)
    → TellsReport old.tally.reads form top (length old.totals.files) old.parts held result out
tells-report form top old new held out result t stands took fault prints =
    let endings = ap (λ (d : Bool). if d then Some (merged_feed new.parts).endings else None) took.done
    ∙ ap Some (λ i file. took.endings t file i) in
    let xs = taken_after [] (run_of old.parts) in
    let new_stands = took.stands t stands in
    tells-printed _ _ held result out (took.free t stands) fault
    (subst (λ l. Prints l None held result out)
    ((λ i. text_showing_for new.tally.reads form (shown_rows top (new_stands.tally.talks.rows i)) (took.files i)
    (endings i) xs)
    ∙ ap (λ (b : Bool). text_showing_for b form (shown_rows top (rows_of (units_for b xs))) (length old.totals.files)
    (Some (merged_feed old.parts).endings) xs) took.reads
    ∙ text-shown old.tally.reads form top (length old.totals.files) (merged_feed old.parts).endings (run_of old.parts))
    (prints xs new_stands))

-- taking them faults: nothing is written
pub tells-nothing : (A : Type 0) (form : Form) (top : Option ℕ) (old new : TableState) (held : List ℕ) (fault : Fault)
    → TakesAll {A = A} old (Err fault) new
    → IsTrue (merged_feed old.parts).told → TableStands old []
    → TellsReport {A = A} old.tally.reads form top (length old.totals.files) old.parts held (Err fault) held
tells-nothing A form top old new held fault takes t stands = grind arith

-- the feed is at its end as the report is written
pub walks-written : (old new : Feed) (result : Result (Unit {0}) Fault) → Walks {A = Unit {0}} old (Ok tt) new
    → IsOkUnless result Write → Walks old result new
walks-written old new result walks fault = grind (arith, Lasts-goes)

-- the feed is at its end as the conversations with the most bytes are looked for
pub walks-found : (A : Type 0) (old new : Feed) (it : A) (fault : Fault) → Walks old (Ok it) new → fault ≡ Memory
    → Walks {A = A} old (Err fault) new
walks-found A old new it fault walks is = rw is (Lasts-goes old new walks.1)

-- nothing is written as packets are taken
pub writer-same : (A : Type 0) (w : Writer) (old new : TableState) (fault : Fault)
    → TakesAll {A = A} old (Err fault) new
    → WriterKeeps w (is_write {A = A} (Err fault)) w
writer-same A w old new fault takes = grind arith

-- a fault of the report is also that of a call that returns more
pub report-fault : (A B : Type 0) (form : Form) (top : Option ℕ) (old : TableState) (held out : List ℕ)
    (fault : Fault)
    → TellsReport {A = A} old.tally.reads form top (length old.totals.files) old.parts held (Err fault) out
    → TellsReport {A = B} old.tally.reads form top (length old.totals.files) old.parts held (Err fault) out
report-fault A B form top old held out fault t = tells-fault A B _ _ held out fault t

pub walks-fault : (A B : Type 0) (old new : Feed) (fault : Fault) → Walks {A = A} old (Err fault) new
    → Walks {A = B} old (Err fault) new
walks-fault A B old new (Refused r) w = w
walks-fault A B old new (Read file offset) w = w
walks-fault A B old new Write w = w
walks-fault A B old new Memory w = w

-- what is left of a table's files is what is left of its merge
pub report-left : (counts : Bool) (result : Result ReportLeft Fault) (ps qs : List Part) (n m : ℕ) → ps ≡ qs → n ≡ m
    → IfOk result (λ left. IsTrue (merged_feed ps).told → LeavesReport counts n ps left)
    → IfOk result (λ left. IsTrue (merged_feed qs).told → LeavesReport counts m qs left)
report-left counts result ps qs n m is many h =
    subst (λ (p : List Part × ℕ). IfOk result (λ left. IsTrue (merged_feed p.0).told
    → LeavesReport counts p.1 p.0 left)) (λ i. (is i, many i)) h
