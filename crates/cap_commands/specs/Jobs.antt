-- What `capt` does for a job: the text of each command, over the bytes of the job's files.
use Rattle.std.specs.Prelude.{◌≡◌, ℕ, List, [], ◌∷◌, length, Bool, true, false, Option, Some, None, unwrap_or}
use Rattle.std.specs.Prelude.{Result, Ok, Err, option_map}
use Rattle.cap_bytes.specs.Printing.{Prints}
use Rattle.cap_bytes.specs.declared.faults.Fault.{Fault}
use Rattle.cap_bytes.specs.declared.faults.Tail.{Tail}
use Rattle.cap_bytes.specs.declared.faults.Tail.TheVariants.{Accept, Refuse}
use Rattle.cap_bytes.specs.declared.numbers.Order.{Order}
use Rattle.cap_bytes.specs.declared.stops.CutRest.{CutRest}
use Rattle.cap_check.specs.CheckText.{WritesChecks, no_names}
use Rattle.cap_check.specs.Checking.{Opened}
use Rattle.cap_check.specs.declared.checked.CheckLine.{CheckLine}
use Rattle.cap_check.specs.declared.checked.CheckLine.TheVariants as lines
use Rattle.cap_line.specs.declared.jobs.Ignored.{Ignored}
use Rattle.cap_line.specs.declared.jobs.Job.{Job}
use Rattle.cap_line.specs.declared.jobs.Task.{Task}
use Rattle.cap_line.specs.declared.jobs.Task.TheVariants as tasks
use Rattle.cap_print.specs.declared.forms.Form.{Form}
use Rattle.cap_print.specs.declared.forms.Form.TheVariants.{Json, Text}
use Rattle.cap_print.specs.declared.forms.TimeForm.{TimeForm}
use Rattle.cap_merge.specs.Files.{clocked_run, endings_of_files}
use Rattle.cap_talks.specs.talks.InfoText.{first_refusal, info_text_in}
use Rattle.cap_talks.specs.talks.ReportText.{report_for, report_refusal_for}
use Rattle.cap_talks.specs.talks.Telling.{Tells}
use Rattle.cap_commands.specs.BlockText.{block_list_in, block_refusal}
use Rattle.cap_commands.specs.ClassText.{list_by}
use Rattle.cap_commands.specs.Converted.{convert_refusal, convert_text}
use Rattle.cap_commands.specs.DiffText.{Comparison, comparison_of, cuts_of, diff_refusal, diff_text_in}
use Rattle.cap_commands.specs.DiffText.{is_same}
use Rattle.cap_commands.specs.JoinText.{join_refusal_in, join_text_in}
use Rattle.cap_commands.specs.ListText.{list_refusal}
use Rattle.cap_commands.specs.MergeText.{merge_refusal_in, merge_text_in}
use Rattle.cap_commands.specs.RunText.{output_format, run_form}
use Rattle.cap_commands.specs.Left.{both_cut, left_of_report, nothing_left, only_cut, only_cuts}
use Rattle.cap_talks.specs.declared.talks.reports.ReportLeft.{ReportLeft}
use Rattle.cap_commands.specs.declared.counting.OutputFormat.{OutputFormat}
use Rattle.cap_commands.specs.declared.counting.OutputFormat.TheVariants.{Pcapng}
use Rattle.cap_commands.specs.declared.diff.CutEnds.{CutEnds}
use Rattle.cap_commands.specs.declared.diff.DiffEnd.{DiffEnd}
use Rattle.cap_commands.specs.declared.diff.DiffOptions.{DiffOptions}
use Rattle.cap_commands.specs.declared.jobs.Done.{Done}
use Rattle.cap_commands.specs.declared.jobs.Finding.{Finding}
use Rattle.cap_commands.specs.declared.jobs.Finding.TheVariants.{Difference, NotWhole, Nothing}
use Rattle.cap_commands.specs.declared.left.DroppedInfo.{DroppedInfo}

-- what is done with a cut end
abbrev pub tail_of : Bool → Tail
tail_of true = Accept
tail_of false = Refuse

-- the bytes of the only file
abbrev pub only_of : List (List ℕ) → List ℕ
only_of [] = []
only_of (bytes ∷ files) = bytes

-- the comparison of two files
abbrev pub comparison_in : Ignored → Tail → List (List ℕ) → Comparison
comparison_in ignored tail [] = comparison_of ignored tail [] []
comparison_in ignored tail (first ∷ files) = comparison_of ignored tail first (only_of files)

-- whether a rest of each was dropped
abbrev pub cuts_in : Tail → List (List ℕ) → CutEnds
cuts_in tail [] = cuts_of tail [] []
cuts_in tail (first ∷ files) = cuts_of tail first (only_of files)

-- the format in which a job writes, if one is asked for, with the unit of time that is asked for
abbrev pub output_of : Job → Option OutputFormat
output_of job = option_map (λ format. output_format format job.unit) job.to

-- the format that `merge` and `join` write
abbrev pub format_in : Option OutputFormat → OutputFormat
format_in to = unwrap_or to Pcapng

-- the form of what is printed, by whether it is JSON and by the form of times
abbrev pub form_by : Bool → TimeForm → Form
form_by true times = Json times
form_by false times = Text times

-- which line `check` prints of a file, by whether it has a digest
abbrev pub counts_line : Bool → CheckLine
counts_line true = lines.CountsAndDigest
counts_line false = lines.Counts

-- which line `digest` or `check` prints of a file
abbrev pub line_by : Task → Bool → CheckLine
line_by tasks.Digest digests = lines.Digest
line_by _ digests = counts_line digests

-- how many bytes of a packet are shown at most: 16 in text, and in JSON unless the job says how many
abbrev pub shown_by : Form → Option ℕ → ℕ
shown_by (Text times) count = 16
shown_by (Json times) count = unwrap_or count 16

-- what a job shows: at most so many bytes of a packet; the conversations with the most bytes in a report, if so many of
-- them are asked for; and the classes and conversations of IPv6 packets too, or not
pub record JobShows : Type 0 where
  pub bytes : ℕ
  pub top : Option ℕ
  pub ipv6 : Bool

abbrev pub job_shows : Job → JobShows
job_shows job = record { bytes = shown_by (form_by job.json job.time) job.data; top = job.top; ipv6 = job.ipv6 }

-- the options of `diff`, by what is ignored, the form, and how many bytes are shown
abbrev pub diff_options : Ignored → Form → ℕ → DiffOptions
diff_options ignored form shown = record { ignored = ignored; form = form; most = shown }

-- files of those bytes, with whether a read of each can fail
abbrev pub opened_files : List Bool → List (List ℕ) → List (Option Opened)
opened_files [] files = []
opened_files (fails ∷ others) [] = []
opened_files (fails ∷ others) (bytes ∷ files) =
    Some (record { told = true; bytes = bytes; can_fail = fails }) ∷ opened_files others files

-- what `check` or `digest` returns, by what it finds
abbrev pub whole_by : Result Unit Fault → Finding → Result Bool Fault
whole_by (Ok done) Nothing = Ok true
whole_by (Ok done) Difference = Ok false
whole_by (Ok done) NotWhole = Ok false
whole_by (Err fault) finding = Err fault

-- What is written, found and returned by a task over files of those bytes, of which a read can fail or not: `list`,
-- `blocks` and `convert` are of one file, `diff` is of two.
abbrev pub DoesTask : Task → Ignored → Tail → Form → JobShows → Bool → Order → Option OutputFormat → Bool → Bool
    → List Bool → List (List ℕ) → Finding → List ℕ → Result Unit Fault → List ℕ → Type 0
DoesTask tasks.List ignored tail form shown classed order to shares digests fails files finding =
    Prints (list_by classed shown.ipv6 form shown.bytes tail (only_of files)) (list_refusal tail (only_of files))
DoesTask tasks.Blocks ignored tail form shown classed order to shares digests fails files finding =
    Prints (block_list_in form tail (only_of files)) (block_refusal tail (only_of files))
DoesTask tasks.Diff ignored tail form shown classed order to shares digests fails files finding =
    Tells (diff_text_in (diff_options ignored form shown.bytes) (cuts_in tail files) (comparison_in ignored tail files))
    (diff_refusal (comparison_in ignored tail files))
DoesTask tasks.Digest ignored tail form shown classed order to shares digests fails files finding =
    λ old result new. WritesChecks lines.Digest form tail no_names (opened_files fails files) old
    (whole_by result finding) new
DoesTask tasks.Check ignored tail form shown classed order to shares digests fails files finding =
    λ old result new. WritesChecks (counts_line digests) form tail no_names (opened_files fails files) old
    (whole_by result finding) new
DoesTask tasks.Info ignored tail form shown classed order to shares digests fails files finding =
    Tells (info_text_in form tail files) (first_refusal tail 1 files)
DoesTask tasks.Report ignored tail form shown classed order to shares digests fails files finding =
    Tells
    (report_for shown.ipv6 form shown.top (length files) (endings_of_files tail files) (clocked_run tail files))
    (report_refusal_for shown.ipv6 (clocked_run tail files))
DoesTask tasks.Convert ignored tail form shown classed order None shares digests fails files finding =
    λ old result new. ⊥
DoesTask tasks.Convert ignored tail form shown classed order (Some format) shares digests fails files finding =
    Prints (convert_text format order tail (only_of files)) (convert_refusal format tail (only_of files))
DoesTask tasks.Merge ignored tail form shown classed order to shares digests fails files finding =
    Prints (merge_text_in (run_form shares (format_in to)) order tail files)
    (merge_refusal_in (run_form shares (format_in to)) tail files)
DoesTask tasks.Join ignored tail form shown classed order to shares digests fails files finding =
    Prints (join_text_in (format_in to) order tail files) (join_refusal_in (format_in to) tail files)

-- What is written, found and returned by a job: what its task is, with its tail, its form, its order, its format with
-- its unit, whether interfaces are shared, and whether the lines of `list` have the class of their packet and those of
-- `check` a digest.
abbrev pub Does : Job → List Bool → List (List ℕ) → Finding → List ℕ → Result Unit Fault → List ℕ → Type 0
Does job =
    DoesTask job.task job.ignored (tail_of job.allow_cut) (form_by job.json job.time) (job_shows job) job.class
    job.order (output_of job) job.shares job.digests

-- what is found by whether two captures have the same packets
abbrev pub finding_by : Bool → Finding
finding_by true = Nothing
finding_by false = Difference

-- what is found by whether all files that are checked are whole
abbrev pub whole_finding : Bool → Finding
whole_finding true = Nothing
whole_finding false = NotWhole

-- What a task finds in files of those bytes: `diff` by whether they differ; `digest` and `check` by whether all are
-- whole, which also hangs on the reads.
abbrev pub FindsTask : Task → Ignored → Tail → List (List ℕ) → Finding → Type 0
FindsTask tasks.Diff ignored tail files found = found ≡ finding_by (is_same (comparison_in ignored tail files))
FindsTask tasks.Digest ignored tail files found = (are_whole : Bool) × (found ≡ whole_finding are_whole)
FindsTask tasks.Check ignored tail files found = (are_whole : Bool) × (found ≡ whole_finding are_whole)
FindsTask _ ignored tail files found = found ≡ Nothing

-- what a job finds
abbrev pub Finds : Job → List (List ℕ) → Finding → Type 0
Finds job = FindsTask job.task job.ignored (tail_of job.allow_cut)

-- what it finds: nothing after a fault
abbrev pub found_in : Result Finding Fault → Finding
found_in (Ok finding) = finding
found_in (Err fault) = Nothing

-- the same of a call that returns what a job did
abbrev pub finding_in : Result Done Fault → Result Finding Fault
finding_in (Ok done) = Ok done.finding
finding_in (Err fault) = Err fault

-- what a job does that prints files which ended in those rests, by their places, where they were cut
abbrev pub printed_by : Result (List (Option CutRest)) Fault → Result Done Fault
printed_by (Ok cuts) = Ok (record { finding = Nothing; left = only_cuts cuts })
printed_by (Err fault) = Err fault

-- what a job does that prints a report, and leaves that
abbrev pub reported_by : Result ReportLeft Fault → Result Done Fault
reported_by (Ok left) = Ok (record { finding = Nothing; left = left_of_report left })
reported_by (Err fault) = Err fault

-- what a job does that prints a file which ended in that rest, if it was cut
abbrev pub listed_by : Result (Option CutRest) Fault → Result Done Fault
listed_by (Ok cut) = Ok (record { finding = Nothing; left = only_cut cut })
listed_by (Err fault) = Err fault

-- what a job does that compares two files, which end so: it leaves out the rests that were cut
abbrev pub compared_by : Result DiffEnd Fault → Result Done Fault
compared_by (Ok end) = Ok (record { finding = finding_by end.is_same; left = both_cut end.cuts })
compared_by (Err fault) = Err fault

-- what a job does that finds something: it leaves nothing out
abbrev pub found_by : Result Finding Fault → Result Done Fault
found_by (Ok finding) = Ok (record { finding = finding; left = nothing_left })
found_by (Err fault) = Err fault

-- what a job does that writes a capture: it finds nothing
abbrev pub written_by : Result DroppedInfo Fault → Result Done Fault
written_by (Ok left) = Ok (record { finding = Nothing; left = left })
written_by (Err fault) = Err fault
