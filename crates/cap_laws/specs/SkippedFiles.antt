-- What `info` and `report` print if they leave out the files that are refused.
use Rattle.std.specs.Prelude.{◌≡◌, ◌<◌, ℕ, List, [], ◌∷◌, ◌++◌, length, map, true, false, Option, None}
use Rattle.std.specs.Prelude.{IsTrue, Result, Ok, Err}
use Rattle.std.specs.List.{AllByRecursion}
use Rattle.cap_bytes.specs.declared.faults.Refusal.{Refusal}
use Rattle.cap_bytes.specs.declared.faults.Tail.{Tail}
use Rattle.cap_check.specs.Checking.{Opened}
use Rattle.cap_commands.specs.Jobs.{JobShows, form_by, job_shows, tail_of}
use Rattle.cap_commands.specs.Skipping.{is_any_refused, kept_of, left_out_lines, refusals_from}
use Rattle.cap_commands.specs.declared.left.DroppedInfo.{DroppedInfo}
use Rattle.cap_line.specs.Jobs.{is_skipping}
use Rattle.cap_line.specs.declared.jobs.Job.{Job}
use Rattle.cap_line.specs.declared.jobs.Task.{Task}
use Rattle.cap_line.specs.declared.jobs.Task.TheVariants as tasks
use Rattle.cap_merge.specs.Files.{clocked_run, endings_of_files}
use Rattle.cap_print.specs.declared.forms.Form.{Form}
use Rattle.cap_talks.specs.talks.InfoText.{first_refusal, info_text_in}
use Rattle.cap_talks.specs.talks.ReportText.{report_for}
use Rattle.cap_tool.specs.Runs.{SkipsJob, ended_as}
use Rattle.cap_tool.specs.Skipped.{AreRefusals}
use Rattle.cap_tool.specs.declared.outcomes.Outcome.TheVariants as outcomes
use Rattle.cap_tool.specs.declared.outcomes.RunStop.{RunStop}

-- the files of those bytes that aren't refused
abbrev pub whole_files : Tail → List (List ℕ) → List (List ℕ)
whole_files tail files = kept_of (refusals_from tail 1 files) files

-- `info` refuses none of the files that are kept. If it refuses none of some files, all of them are kept, and no line
-- tells that one is left out; and if it refuses one, one is left out.
abbrev pub KeepsWhole : Type 0
KeepsWhole =
    (form : Form) (tail : Tail) (files : List (List ℕ))
    → (first_refusal tail 1 (whole_files tail files) ≡ None)
    × (is_any_refused (refusals_from tail 1 files) ≡ false → first_refusal tail 1 files ≡ None)
    × (first_refusal tail 1 files ≡ None
    → (is_any_refused (refusals_from tail 1 files) ≡ false) × (whole_files tail files ≡ files)
    × (left_out_lines form (refusals_from tail 1 files) ≡ []))

-- what `info` or `report` prints of one or more files, if none is refused
abbrev pub printed_text : Task → Form → JobShows → Tail → List (List ℕ) → List ℕ
printed_text tasks.Info form shown tail files = info_text_in form tail files
printed_text tasks.Report form shown tail files =
    report_for shown.ipv6 form shown.top (length files) (endings_of_files tail files) (clocked_run tail files)
printed_text _ form shown tail files = []

-- what a job prints of some files; nothing of none
abbrev pub job_text : Job → List (List ℕ) → List ℕ
job_text job [] = []
job_text job (bytes ∷ files) = printed_text job.task (form_by job.json job.time) (job_shows job)
    (tail_of job.allow_cut) (bytes ∷ files)

-- A job that leaves out files that are refused is done over some files, which have the same bytes when those that are
-- kept are opened once more. Those that are refused are left out, and no others. If the run is done, none is refused,
-- and it has printed what it prints of all. If it ends as one that left files out, one is refused, and it has printed
-- the lines of those that are, and then what it prints of the others.
abbrev pub SkipsAsOthers : Type 0
SkipsAsOthers =
    (job : Job) (files : List Opened) (refusals : List (Option Refusal)) (old : List ℕ)
    (ended : Result DroppedInfo RunStop) (new waiting : List ℕ)
    → IsTrue (is_skipping job.task job.skips) → 0 < length files → AllByRecursion (λ file. IsTrue file.told) files
    → AreRefusals (tail_of job.allow_cut) 1 files refusals
    → SkipsJob job refusals (map (λ file. file.can_fail) (kept_of refusals files))
    (map (λ file. file.bytes) (kept_of refusals files)) old ended new waiting
    → (let bytes = map (λ file. file.bytes) files in
    let tail = tail_of job.allow_cut in
    (refusals ≡ refusals_from tail 1 bytes)
    × (ended_as ended ≡ Ok tt
    → (is_any_refused refusals ≡ false) × (new ≡ old ++ job_text job bytes))
    × (ended_as ended ≡ Err outcomes.NotWhole
    → (is_any_refused refusals ≡ true)
    × (new ≡ old ++ left_out_lines (form_by job.json job.time) refusals ++ job_text job (whole_files tail bytes))))
