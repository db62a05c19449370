-- How many files a job has at most.
use Rattle.std.proofs.Common.{◌≤◌, vec_len, arith, IsFalse}
use Rattle.cap_line.specs.Jobs.{IsWholeJob, is_surveying, most_files}
use Rattle.cap_line.specs.declared.jobs.Job.{Job}
use Rattle.cap_line.specs.declared.jobs.Task.{Task}
use Rattle.cap_line.specs.declared.jobs.Task.TheVariants as tasks

-- no task takes more than 4,294,967,295 files
pub most_files-any : (task : Task) → most_files task ≤ 4294967295
most_files-any tasks.List = omega arith
most_files-any tasks.Blocks = omega arith
most_files-any tasks.Diff = omega arith
most_files-any tasks.Digest = omega arith
most_files-any tasks.Check = omega arith
most_files-any tasks.Info = omega arith
most_files-any tasks.Report = omega arith
most_files-any tasks.Convert = omega arith
most_files-any tasks.Merge = omega arith
most_files-any tasks.Join = omega arith

-- a job has at most 4,294,967,295 files
pub IsWholeJob-any : (job : Job) → IsWholeJob job → vec_len job.files ≤ 4294967295
IsWholeJob-any job whole = omega (arith, whole.most, most_files-any job.task)

-- a task other than `digest` and `check` takes at most 32
pub most_files-few : (task : Task) → IsFalse (is_surveying task) → most_files task ≤ 32
most_files-few tasks.List other = omega arith
most_files-few tasks.Blocks other = omega arith
most_files-few tasks.Diff other = omega arith
most_files-few tasks.Digest other = absurd (cc)
most_files-few tasks.Check other = absurd (cc)
most_files-few tasks.Info other = omega arith
most_files-few tasks.Report other = omega arith
most_files-few tasks.Convert other = omega arith
most_files-few tasks.Merge other = omega arith
most_files-few tasks.Join other = omega arith

-- a job of a task other than `digest` and `check` has at most 32 files
pub IsWholeJob-few : (job : Job) → IsWholeJob job → IsFalse (is_surveying job.task) → vec_len job.files ≤ 32
IsWholeJob-few job whole other = omega (arith, whole.most, most_files-few job.task other)
