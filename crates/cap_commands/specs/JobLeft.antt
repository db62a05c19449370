-- What a job leaves out of what it writes, or as it was.
use Rattle.std.specs.Prelude.{◌≡◌, ℕ, Bool, List, [], None, length}
use Rattle.cap_bytes.specs.declared.faults.Tail.{Tail}
use Rattle.cap_line.specs.declared.jobs.Ignored.{Ignored}
use Rattle.cap_line.specs.declared.jobs.Job.{Job}
use Rattle.cap_line.specs.declared.jobs.Task.{Task}
use Rattle.cap_line.specs.declared.jobs.Task.TheVariants as tasks
use Rattle.cap_merge.specs.Files.{clocked_run, counted_endings, endings_of_files}
use Rattle.cap_source.specs.Items.{counted_ending, file_ending}
use Rattle.cap_talks.specs.table.OtherNetworks.{counts_if}
use Rattle.cap_talks.specs.talks.CutRests.{rests_by_place}
use Rattle.cap_class.specs.Runs.{taken_after}
use Rattle.cap_commands.specs.BlockText.{block_cut}
use Rattle.cap_commands.specs.DiffText.{ended_rests}
use Rattle.cap_commands.specs.Jobs.{comparison_in, cuts_in, only_of, tail_of}
use Rattle.cap_commands.specs.Left.{both_cut, nothing_left, left_of_file, LeavesOut, LeavesPackets, left_of_report}
use Rattle.cap_commands.specs.Left.{only_cut, only_cuts}
use Rattle.cap_commands.specs.declared.left.DroppedInfo.{DroppedInfo}

-- of files of those bytes, by its task: the blocks that are skipped, the names of interfaces and, if they are counted,
-- the comments, of `convert`, `merge` and `join` alone; the rests that were cut, of these, of `list`, `blocks`, `info`
-- and `report`, and of `diff` those of files that have ended where they part; and, if they are counted, the packets
-- that `join` leaves out, and those of networks other than IPv4 that `report` counts
abbrev pub LeavesTask : Task → Ignored → Tail → List (List ℕ) → Bool → DroppedInfo → Type 0
LeavesTask tasks.List ignored tail files counts left = left ≡ only_cut (file_ending tail 1 (only_of files)).ending.cut
LeavesTask tasks.Blocks ignored tail files counts left = left ≡ only_cut (block_cut tail (only_of files))
LeavesTask tasks.Diff ignored tail files counts left =
    left ≡ both_cut (ended_rests (cuts_in tail files) (comparison_in ignored tail files))
LeavesTask tasks.Digest ignored tail files counts left = left ≡ nothing_left
LeavesTask tasks.Check ignored tail files counts left = left ≡ nothing_left
LeavesTask tasks.Info ignored tail files counts left =
    left ≡ only_cuts (rests_by_place (endings_of_files tail files) (length files))
LeavesTask tasks.Report ignored tail files counts left =
    left
    ≡ left_of_report (record {
      cuts = rests_by_place (endings_of_files tail files) (length files);
      not_ipv4 = counts_if counts (taken_after [] (clocked_run tail files));
    })
LeavesTask tasks.Convert ignored tail files counts left =
    left ≡ left_of_file (counted_ending counts tail 1 (only_of files))
LeavesTask tasks.Merge ignored tail files counts left =
    LeavesOut (counted_endings counts tail files) (length files) left × (left.left_out ≡ None)
LeavesTask tasks.Join ignored tail files counts left =
    LeavesOut (counted_endings counts tail files) (length files) left
    × LeavesPackets counts (clocked_run tail files) left

abbrev pub JobLeaves : Job → List (List ℕ) → Bool → DroppedInfo → Type 0
JobLeaves job = LeavesTask job.task job.ignored (tail_of job.allow_cut)
