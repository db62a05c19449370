-- How a command's text ends, by what the command returns.
use Rattle.std.specs.Prelude.{◌≡◌, Result}
use Rattle.cap_bytes.specs.declared.faults.Fault.{Fault}
use Rattle.cap_commands.specs.Jobs.{finding_in, found_in}
use Rattle.cap_commands.specs.Left.{done_of}
use Rattle.cap_commands.specs.declared.jobs.Done.{Done}
use Rattle.capt_c.specs.JobRests.{answer_by_end, found_by_end}
use Rattle.capt_c.specs.declared.job_ends.JobEnd.{JobEnd}

-- A command that returns that ends so.
pub record EndsAs (answer : Result Done Fault) (end : JobEnd) : Type 0 where
  pub found : found_in (finding_in answer) ≡ found_by_end end
  pub done : done_of (finding_in answer) ≡ answer_by_end end
