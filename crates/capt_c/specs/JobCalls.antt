-- What the calls do to a job that a caller holds.
use Rattle.std.specs.Prelude.{◌≡◌, ℕ, List, Option, Some, None, Result, map}
use Rattle.cap_bytes.specs.declared.faults.Fault.{Fault}
use Rattle.capt_c.specs.Answers.{place_of_result, status_of_result}
use Rattle.capt_c.specs.Asking.{BeginsJob}
use Rattle.capt_c.specs.CommandJobs.{ReadsJob, count_read, job_rest, status_of_read}
use Rattle.capt_c.specs.Texts.{file_bytes}
use Rattle.capt_c.specs.Reading.{Misused}
use Rattle.capt_c.specs.declared.answers.CPlace.{CPlace}
use Rattle.capt_c.specs.declared.command_jobs.CommandJob.{CommandJob}
use Rattle.capt_c.specs.declared.command_jobs.JobRead.{JobRead}
use Rattle.capt_c.specs.declared.handles.Handle.{Handle}
use Rattle.capt_c.specs.declared.handles.HandleValue.{HandleValue}
use Rattle.capt_c.specs.declared.handles.HandleValue.TheVariants as helds
use Rattle.capt_c.specs.declared.job_options.Asked.{Asked}
use Rattle.capt_c.specs.declared.texts.Bytes.{Bytes}

-- A job is open, all of whose text is to come: what the program prints or writes that is asked for the same of those
-- files. Or no memory was found.
abbrev pub OpensJob : Asked → List Bytes → ℕ → Option HandleValue → Type 0
OpensJob asked files status None = status ≡ 5
OpensJob asked files status (Some (helds.Capture c)) = ⊥
OpensJob asked files status (Some (helds.Fed f)) = ⊥
OpensJob asked files status (Some (helds.Table t)) = ⊥
OpensJob asked files status (Some (helds.Text text)) = ⊥
OpensJob asked files status (Some (helds.Writer w)) = ⊥
OpensJob asked files status (Some (helds.Job job)) =
    (status ≡ 0) × BeginsJob asked (map file_bytes files) (job_rest job.value)

-- A call that opens a job does so, if the command takes what it is asked for. Else it is misused: it returns 6, and
-- leaves the handle as it was.
abbrev pub OpensAsked : Option Asked → List Bytes → ℕ → Handle → Handle → Type 0
OpensAsked None files status was new = (status ≡ 6) × (new ≡ was)
OpensAsked (Some asked) files status was new = OpensJob asked files status new.kept.value

-- A caller's objects for the next bytes: a buffer, a number and a place.
pub record Piece : Type 0 where
  pub buffer : List ℕ
  pub count : ℕ
  pub place : CPlace

-- What a call for the next bytes of a job returns and leaves; `was` is the caller's buffer before it.
abbrev pub Given : CommandJob → List ℕ → ℕ → Piece → CommandJob → Type 0
Given old was status now new =
    (answer : Result JobRead Fault) × (status ≡ status_of_result status_of_read answer)
    × (now.place ≡ place_of_result answer) × (now.count ≡ count_read answer)
    × ReadsJob (job_rest old) was answer now.buffer (job_rest new)

-- That is true of the job that is held.
abbrev pub LeavesJob : Option HandleValue → (CommandJob → Type 0) → Type 0
LeavesJob None Holds = ⊥
LeavesJob (Some (helds.Capture c)) Holds = ⊥
LeavesJob (Some (helds.Fed f)) Holds = ⊥
LeavesJob (Some (helds.Table t)) Holds = ⊥
LeavesJob (Some (helds.Text text)) Holds = ⊥
LeavesJob (Some (helds.Writer w)) Holds = ⊥
LeavesJob (Some (helds.Job job)) Holds = Holds job.value

-- What a call for the next bytes returns and leaves, if there is room for one: of a handle that is no open job, nothing
-- but that.
abbrev pub ReadsHeld : Option HandleValue → Piece → ℕ → Piece → Option HandleValue → Type 0
ReadsHeld None was status now new = Misused status None new was now
ReadsHeld (Some (helds.Capture c)) was status now new = Misused status (Some (helds.Capture c)) new was now
ReadsHeld (Some (helds.Fed f)) was status now new = Misused status (Some (helds.Fed f)) new was now
ReadsHeld (Some (helds.Table t)) was status now new = Misused status (Some (helds.Table t)) new was now
ReadsHeld (Some (helds.Text text)) was status now new = Misused status (Some (helds.Text text)) new was now
ReadsHeld (Some (helds.Writer w)) was status now new = Misused status (Some (helds.Writer w)) new was now
ReadsHeld (Some (helds.Job job)) was status now new =
    LeavesJob new (λ later. Given job.value was.buffer status now later)
