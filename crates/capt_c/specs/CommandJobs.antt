-- A command over captures in memory whose text is read piece by piece.
use Rattle.std.specs.Prelude.{◌≡◌, ◌≤◌, ℕ, List, [], ◌++◌, take, drop, length, Option, Some, None, Result, Ok, Err}
use Rattle.cap_bytes.specs.declared.faults.Fault.{Fault}
use Rattle.cap_bytes.specs.declared.faults.Fault.TheVariants.{Refused, Read, Write, Memory}
use Rattle.cap_commands.specs.declared.jobs.Finding.{Finding}
use Rattle.cap_commands.specs.declared.jobs.Finding.TheVariants.{Difference, NotWhole, Nothing}
use Rattle.cap_source.specs.Feed.{Feed}
use Rattle.cap_source.specs.inner.Captures.{capture_feed}
use Rattle.capt_c.specs.BlockRests.{blocks_rest}
use Rattle.capt_c.specs.JobRests.{JobRest, feed_rest}
use Rattle.capt_c.specs.JobStands.{blocks_left}
use Rattle.capt_c.specs.declared.command_jobs.CommandJob.{CommandJob}
use Rattle.capt_c.specs.declared.command_jobs.JobRead.{JobRead}
use Rattle.capt_c.specs.declared.command_jobs.JobRead.TheVariants as reads
use Rattle.capt_c.specs.declared.command_jobs.JobWork.{JobWork}
use Rattle.capt_c.specs.declared.command_jobs.JobWork.TheVariants as works
use Rattle.capt_c.specs.declared.job_ends.JobEnd.TheVariants as ends
use Rattle.capt_c.specs.declared.job_blocks.BlocksWork.{BlocksWork}
use Rattle.capt_c.specs.declared.job_lists.ListWork.{ListWork}

-- the packets that are still to be listed
abbrev pub list_feed : ListWork → Feed
list_feed work = capture_feed work.capture

abbrev pub list_rest : ListWork → JobRest
list_rest work = feed_rest work.options work.number (list_feed work)

abbrev pub block_list_rest : BlocksWork → JobRest
block_list_rest work = blocks_rest work.form work.number work.next work.reader

-- how many blocks are still to be listed at most
abbrev pub block_steps : BlocksWork → ℕ
block_steps work = blocks_left work.reader work.next

-- what the work of a job still gives
abbrev pub work_rest : JobWork → JobRest
work_rest (works.List work) = list_rest work
work_rest (works.Blocks work) = block_list_rest work
work_rest (works.Whole end) = record { text = []; end = end }

-- how many steps it still makes at most
abbrev pub work_left : JobWork → ℕ
work_left (works.List work) = (list_feed work).left
work_left (works.Blocks work) = block_steps work
work_left (works.Whole end) = 0

-- what a job still gives: the bytes that were made and not given, and then those of its work
abbrev pub job_rest : CommandJob → JobRest
job_rest job = record {
  text = drop job.given job.made.items ++ (work_rest job.work).text;
  end = (work_rest job.work).end;
}

-- Bytes were made, and none of those to come got lost.
abbrev pub KeepsRest : JobRest → List ℕ → List ℕ → JobRest → Type 0
KeepsRest old before after new = (after ++ new.text ≡ before ++ old.text) × (new.end ≡ old.end)

-- Bytes were made until there are as many as there is room for; or all were made, and the job has ended so, or is
-- refused, or no memory was found.
abbrev pub FillsJob : ℕ → JobRest → List ℕ → Result (Option Finding) Fault → List ℕ → JobRest → Type 0
FillsJob room old before (Ok None) after new = KeepsRest old before after new × (room ≤ length after)
FillsJob room old before (Ok (Some finding)) after new =
    KeepsRest old before after new × (new ≡ record { text = []; end = ends.Found finding })
FillsJob room old before (Err (Refused refusal)) after new =
    KeepsRest old before after new × (new ≡ record { text = []; end = ends.Refused refusal })
FillsJob room old before (Err (Read file offset)) after new = ⊥
FillsJob room old before (Err Write) after new = ⊥
FillsJob room old before (Err Memory) after new = KeepsRest old before after new

-- The same is to come, and some of it was made. Or none is, and the job has ended so or is refused; or no memory was
-- found.
abbrev pub RefillsJob : JobRest → Result (Option Finding) Fault → ℕ → List ℕ → JobRest → Type 0
RefillsJob old (Ok None) given made new = (new ≡ old) × (given ≡ 0) × (1 ≤ length made)
RefillsJob old (Ok (Some finding)) given made new =
    (old ≡ record { text = []; end = ends.Found finding }) × (new ≡ old)
RefillsJob old (Err (Refused refusal)) given made new =
    (old ≡ record { text = []; end = ends.Refused refusal }) × (new ≡ old)
RefillsJob old (Err (Read file offset)) given made new = ⊥
RefillsJob old (Err Write) given made new = ⊥
RefillsJob old (Err Memory) given made new = new ≡ old

-- The next bytes were given, one or more: they are at the front of the buffer, which keeps what is behind them. Or all
-- were given, and the job has ended so or is refused; or no memory was found. Then the buffer is as it was, and the
-- same is to come.
abbrev pub ReadsJob : JobRest → List ℕ → Result JobRead Fault → List ℕ → JobRest → Type 0
ReadsJob old was (Ok (reads.Bytes n)) now new =
    (1 ≤ n) × (n ≤ length was) × (n ≤ length old.text) × (now ≡ take n old.text ++ drop n was)
    × (new ≡ record { text = drop n old.text; end = old.end })
ReadsJob old was (Ok (reads.End finding)) now new =
    (old ≡ record { text = []; end = ends.Found finding }) × (now ≡ was) × (new ≡ old)
ReadsJob old was (Err (Refused refusal)) now new =
    (old ≡ record { text = []; end = ends.Refused refusal }) × (now ≡ was) × (new ≡ old)
ReadsJob old was (Err (Read file offset)) now new = ⊥
ReadsJob old was (Err Write) now new = ⊥
ReadsJob old was (Err Memory) now new = (now ≡ was) × (new ≡ old)

-- the status of a read: bytes came, or how the job ended
abbrev pub status_of_finding : Finding → ℕ
status_of_finding Nothing = 0
status_of_finding Difference = 9
status_of_finding NotWhole = 10

abbrev pub status_of_read : JobRead → ℕ
status_of_read (reads.Bytes n) = 8
status_of_read (reads.End finding) = status_of_finding finding

-- how many bytes came
abbrev pub count_read : Result JobRead Fault → ℕ
count_read (Ok (reads.Bytes n)) = n
count_read (Ok (reads.End finding)) = 0
count_read (Err fault) = 0
