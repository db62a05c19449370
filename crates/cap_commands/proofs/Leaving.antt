-- What is left of files that were written.
use Rattle.std.proofs.Common.{◌≡◌, ◌+◌, ◌<◌, ℕ, zero, suc, List, [], map, length, Bool, IsTrue, Some, Result}
use Rattle.std.proofs.Common.{◌-◌, ◌++◌, ◌∷◌, take, drop, slice_set, Option, None, take-append-drop}
use Rattle.std.proofs.Common.{Ok, Err, OnOk, refl, sym, ap, ◌∙◌, subst, arith}
use Rattle.std.specs.Prelude.{IfOk, is_some, replicate, unwrap_or}
use Rattle.std.specs.List.{list_all, range_with_len}
use Rattle.cap_bytes.specs.Printing.{Prints}
use Rattle.cap_bytes.specs.declared.faults.Fault.{Fault}
use Rattle.cap_bytes.specs.declared.faults.Tail.{Tail}
use Rattle.cap_bytes.specs.declared.numbers.Order.{Order}
use Rattle.cap_bytes.specs.declared.stops.CutRest.{CutRest}
use Rattle.cap_line.specs.declared.jobs.Job.{Job}
use Rattle.cap_line.specs.declared.jobs.Task.TheVariants as tasks
use Rattle.cap_merge.proofs.Unread.{told-readers, bytes-readers}
use Rattle.cap_merge.specs.Files.{clocked_run, counted_endings, endings_of_files}
use Rattle.cap_merge.specs.Parts.{Part, merged_feed, run_of}
use Rattle.cap_merge.specs.inner.Readers.{ReaderFacts, IsCountedRun}
use Rattle.cap_source.specs.Feed.{Feed, HasFile, Item, FeedKeeps}
use Rattle.cap_source.specs.Items.{file_first, file_items}
use Rattle.cap_source.specs.inner.Walk.{SameEndings, Walks}
use Rattle.cap_source.specs.declared.feeds.FileEnd.{FileEnd}
use Rattle.cap_source.specs.declared.feeds.Head.TheVariants as heads
use Rattle.cap_commands.specs.declared.counting.OutputFormat.{OutputFormat}
use Rattle.cap_commands.specs.declared.counting.OutputFormat.TheVariants.{Pcap, Pcapng}
use Rattle.cap_talks.proofs.TableLines.{is-numbered}
use Rattle.std.proofs.lemmas.List.{length-map, take_more_set, drop-set-lt, drop-drop, drop-replicate}
use Rattle.std.proofs.lemmas.List.FromFn.{length-range_with_len}
use Rattle.cap_commands.specs.Converted.{convert_text, convert_refusal}
use Rattle.cap_commands.specs.inner.FileText.{written_file_text, file_refusal}
use Rattle.cap_class.specs.Runs.{taken_after}
use Rattle.cap_talks.specs.declared.table.others.OtherCounts.{OtherCounts}
use Rattle.cap_talks.specs.declared.talks.reports.ReportLeft.{ReportLeft}
use Rattle.cap_write.specs.LeftOut.{CountsLeftOut}
use Rattle.cap_write.specs.declared.left_out.LeftOut.{LeftOut}
use Rattle.cap_commands.specs.Left.{left_of_file, left_of_report, sum_of_files, skipped_in, secret_blocks_in}
use Rattle.cap_commands.specs.Left.{dropped_comments, name_blocks_in, named_in}
use Rattle.cap_talks.specs.table.OtherNetworks.{counts_if}
use Rattle.cap_talks.specs.talks.CutRests.{rests_by_place, rests_in}
use Rattle.cap_commands.specs.JobLeft.{JobLeaves, LeavesTask}
use Rattle.cap_commands.specs.Jobs.{reported_by, tail_of}
use Rattle.cap_commands.specs.Left.{LeavesOut, LeavesPackets}
use Rattle.cap_commands.specs.declared.jobs.Done.{Done}
use Rattle.cap_commands.specs.declared.left.DroppedInfo.{DroppedInfo}

-- a walk that is done has come to the end
pub Walks-done : (old new : Feed) (result : Result (Unit {0}) Fault) → Walks old result new
    → OnOk result (new.known ≡ Some heads.End)
Walks-done old new (Ok x) w = w.0
Walks-done old new (Err fault) w = tt

sum_in-same : (count : FileEnd → ℕ) (f g : ℕ → FileEnd) (n : ℕ) → ((file : ℕ) → f file ≡ g file)
    → sum_of_files count f n ≡ sum_of_files count g n
sum_in-same count f g zero same = refl
sum_in-same count f g (suc n) same = rw (sum_in-same count f g n same, same (suc n)) refl

pub sum-more : (count : FileEnd → ℕ) (endings : ℕ → FileEnd) (n : ℕ)
    → sum_of_files count endings (n + 1) ≡ sum_of_files count endings n + count (endings (n + 1))
sum-more count endings n =
    let next : n + 1 ≡ suc n = omega arith in
    ap (sum_of_files count endings) next ∙ ap (λ m. sum_of_files count endings n + count (endings m)) (sym next)

rests_in-same : (f g : ℕ → FileEnd) (n : ℕ) → ((file : ℕ) → f file ≡ g file) → rests_in f n ≡ rests_in g n
rests_in-same f g zero same = refl
rests_in-same f g (suc n) same = rw (rests_in-same f g n same, same (suc n)) refl

-- the rest of one more file is at its place
pub rests-more : (endings : ℕ → FileEnd) (n : ℕ) (cuts : List (Option CutRest)) (cut : Option CutRest)
    → n < length cuts → take n cuts ≡ rests_in endings n → cut ≡ (endings (n + 1)).ending.cut
    → take (n + 1) (slice_set cuts n cut) ≡ rests_in endings (n + 1)
rests-more endings n cuts cut within so is =
    let next : n + 1 ≡ suc n = omega arith in
    take_more_set cuts n cut within ∙ (ap (λ l. l ++ cut ∷ []) so ∙ (ap (λ c. rests_in endings n ++ c ∷ [])
    (is ∙ ap (λ m. (endings m).ending.cut) next) ∙ ap (rests_in endings) (sym next)))

-- and the places behind it stay empty
pub places-more : (n : ℕ) (cuts : List (Option CutRest)) (cut : Option CutRest) → n < 32
    → drop n cuts ≡ replicate (32 - n) None → drop (n + 1) (slice_set cuts n cut) ≡ replicate (32 - (n + 1)) None
places-more n cuts cut within others =
    drop-set-lt (n + 1) cuts n cut (omega arith)
    ∙ (sym (drop-drop 1 n cuts) ∙ (ap (drop 1) others ∙ (drop-replicate 1 (32 - n) None
    ∙ ap (λ k. replicate k None) (omega (arith, within)))))

-- the places of the files, and those that are empty
pub rests-all : (endings : ℕ → FileEnd) (n : ℕ) (cuts : List (Option CutRest)) → take n cuts ≡ rests_in endings n
    → drop n cuts ≡ replicate (32 - n) None → cuts ≡ rests_in endings n ++ replicate (32 - n) None
rests-all endings n cuts so others =
    sym (take-append-drop n cuts) ∙ (ap (λ l. l ++ drop n cuts) so ∙ ap (λ l. rests_in endings n ++ l) others)

-- files that end alike leave the same out
Drops-same : (f g : ℕ → FileEnd) (n m : ℕ) (left : DroppedInfo) → n ≡ m → ((file : ℕ) → f file ≡ g file)
    → LeavesOut f n left
    → LeavesOut g m left
Drops-same f g n m left is same d = record {
  skipped = d.skipped ∙ (ap (skipped_in f) is ∙ sum_in-same (λ end. end.ending.skipped) f g m same);
  secrets = d.secrets ∙ (ap (secret_blocks_in f) is ∙ sum_in-same (λ end. end.kinds.secrets) f g m same);
  names = d.names ∙ (ap (name_blocks_in f) is ∙ sum_in-same (λ end. end.kinds.names) f g m same);
  named = d.named ∙ (ap (named_in f) is ∙ sum_in-same (λ end. end.named) f g m same);
  comments = d.comments ∙ (ap (dropped_comments f) is ∙ sum_in-same (λ end. unwrap_or end.comments 0) f g m same);
  cuts = d.cuts ∙ (ap (λ k. rests_in f k ++ replicate (32 - k) None) is
      ∙ ap (λ l. l ++ replicate (32 - m) None) (rests_in-same f g m same));
  networks = d.networks;
}

-- a file of that number is one of them
pub is-file : (files : List ℕ) (count place : ℕ) → files ≡ range_with_len 1 count → place < count
    → HasFile files (place + 1)
is-file files count place is within =
    let number : 1 + place ≡ place + 1 = omega arith in
    subst (λ fs. HasFile fs (place + 1)) (sym is) (subst (HasFile (range_with_len 1 count)) number
    (is-numbered 1 count place within))

-- of files that were merged
pub Drops-merged : {comments : Bool} {A : Type 0} (reader : A → ReaderFacts) (tail : Tail) (sources : List A)
    (ps : List Part) (new : Feed) (result : Result (Unit {0}) Fault) (left : DroppedInfo)
    → IsCountedRun comments tail (map reader sources) ps → FeedKeeps (merged_feed ps) new
    → OnOk result (IsTrue (merged_feed ps).told → SameEndings (merged_feed ps) new)
    → OnOk result (LeavesOut new.endings (length new.files) left)
    → OnOk result (IsTrue (list_all (λ s. (reader s).told) sources)
    → LeavesOut (counted_endings comments tail (map (λ s. (reader s).bytes) sources)) (length sources) left)
Drops-merged {comments = comments} reader tail sources ps new (Ok x) left u keeps ends is = λ t.
    let told = told-readers reader tail sources ps u t in
    let count : length new.files ≡ length sources =
    ap length (keeps.files ∙ u.files)
    ∙ (length-range_with_len 1 (length (map reader sources)) ∙ length-map sources reader) in
    Drops-same new.endings (counted_endings comments tail (map (λ s. (reader s).bytes) sources)) (length new.files)
    (length sources) left count
    (λ file. ends told file
    ∙ (u.endings file ∙ ap (λ l. counted_endings comments tail l file) (bytes-readers reader sources))) is
Drops-merged reader tail sources ps new (Err fault) left u keeps ends is = tt

-- of the packets of files that were joined
pub LeavesPackets-joined : {comments : Bool} {A : Type 0} (reader : A → ReaderFacts) (tail : Tail) (sources : List A)
    (ps : List Part) (counts : Bool) (before new : Option LeftOut) (left : DroppedInfo)
    → IsCountedRun comments tail (map reader sources) ps → is_some before ≡ counts → is_some new ≡ is_some before
    → (IsTrue (merged_feed ps).told → CountsLeftOut new (taken_after [] (run_of ps))) → left.left_out ≡ new
    → IsTrue (list_all (λ s. (reader s).told) sources)
    → LeavesPackets counts (clocked_run tail (map (λ s. (reader s).bytes) sources)) left
LeavesPackets-joined reader tail sources ps counts before new left u asked same counted is t = record {
  asked = ap is_some is ∙ (same ∙ asked);
  packets =
      subst (λ run. CountsLeftOut left.left_out (taken_after [] run))
      (u.run ∙ ap (clocked_run tail) (bytes-readers reader sources))
      (subst (λ l. CountsLeftOut l (taken_after [] (run_of ps))) (sym is)
      (counted (told-readers reader tail sources ps u t)));
}

-- of one file
pub DroppedInfo-one : (old new : Feed) (told : Bool) (ending : FileEnd) (result : Result (Unit {0}) Fault)
    (left : DroppedInfo)
    → old.told ≡ told → ((n : ℕ) → old.endings n ≡ ending)
    → OnOk result (IsTrue old.told → SameEndings old new)
    → OnOk result (left ≡ left_of_file (new.endings 1))
    → OnOk result (IsTrue told → left ≡ left_of_file ending)
DroppedInfo-one old new told ending (Ok x) left is at ends l = λ t. l ∙ ap left_of_file
    (ends (subst IsTrue (sym is) t) 1 ∙ at 1)
DroppedInfo-one old new told ending (Err fault) left is at ends l = tt

-- what is written of a file of which nothing was read
pub Prints-file : (format : OutputFormat) (order : Order) (tail : Tail) (bytes : List ℕ) (number : ℕ) (first : _)
    (items : List Item) (held new : List ℕ) (result : Result (Unit {0}) Fault)
    → number ≡ 1 → first ≡ file_first tail 1 bytes → items ≡ file_items tail 1 bytes
    → Prints (written_file_text format order number first items) (file_refusal format number first items) held result
    new
    → Prints (convert_text format order tail bytes) (convert_refusal format tail bytes) held result new
Prints-file (Pcap unit) order tail bytes number first items held new result n f i p = rw (n, f, i) at p
Prints-file Pcapng order tail bytes number first items held new result n f i p = rw (n, f, i) at p

-- of a report
pub report-leaves : (left : ReportLeft) (cuts : List (Option CutRest)) (others : Option OtherCounts) → left.cuts ≡ cuts
    → left.not_ipv4 ≡ others → left_of_report left ≡ left_of_report (record { cuts = cuts; not_ipv4 = others })
report-leaves left cuts others is are = λ i. left_of_report (record { cuts = is i; not_ipv4 = are i })

report-done : (answer : Result ReportLeft Fault) (T : Type 0) (cuts : List (Option CutRest))
    (others : Option OtherCounts)
    → IfOk answer (λ left. T → left.cuts ≡ cuts) → IfOk answer (λ left. T → left.not_ipv4 ≡ others)
    → IfOk (reported_by answer)
    (λ done. T → done.left ≡ left_of_report (record { cuts = cuts; not_ipv4 = others }))
report-done (Ok left) T cuts others c n = λ t. report-leaves left cuts others (c t) (n t)
report-done (Err fault) T cuts others c n = tt

-- of a job that is a report
pub report-job : (job : Job) (tail : Tail) (files : List (List ℕ)) (counts : Bool) (T : Type 0)
    (answer : Result ReportLeft Fault) (count : ℕ) (result : Result Done Fault)
    → job.task ≡ tasks.Report → tail ≡ tail_of job.allow_cut → count ≡ length files → result ≡ reported_by answer
    → IfOk answer (λ left. T → left.cuts ≡ rests_by_place (endings_of_files tail files) count)
    → IfOk answer (λ left. T → left.not_ipv4 ≡ counts_if counts (taken_after [] (clocked_run tail files)))
    → IfOk result (λ done. T → JobLeaves job files counts done.left)
report-job job tail files counts T answer count result task is many by c n =
    subst (λ r. IfOk r (λ done. T → JobLeaves job files counts done.left)) (sym by)
    (subst (λ k. IfOk (reported_by answer)
    (λ done. T → LeavesTask k job.ignored (tail_of job.allow_cut) files counts done.left)) (sym task)
    (subst (λ l. IfOk (reported_by answer)
    (λ done. T → LeavesTask tasks.Report job.ignored l files counts done.left)) is
    (report-done answer T (rests_by_place (endings_of_files tail files) (length files))
    (counts_if counts (taken_after [] (clocked_run tail files)))
    (subst (λ m. IfOk answer (λ left. T → left.cuts ≡ rests_by_place (endings_of_files tail files) m)) many c) n)))
