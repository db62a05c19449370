-- A run of a job, by whether its files are opened one after another.
use Rattle.std.proofs.Common.{◌≡◌, ◌∙◌, ◌<◌, ◌∷◌, List, ℕ, Bool, false, Option, Result, Err, length, sym, subst, arith}
use Rattle.std.specs.Prelude.{◌⊎◌, []}
use Rattle.cap_bytes.specs.declared.faults.Fault.TheVariants as faults
use Rattle.cap_bytes.specs.declared.faults.Refusal.{Refusal}
use Rattle.cap_check.specs.Checking.{Opened}
use Rattle.cap_line.specs.Jobs.{is_surveying}
use Rattle.cap_line.specs.declared.jobs.Job.{Job}
use Rattle.cap_commands.specs.declared.left.DroppedInfo.{DroppedInfo}
use Rattle.cap_tool.specs.Outlets.{Outgoing}
use Rattle.cap_tool.specs.Outcomes.{ends_by}
use Rattle.cap_tool.specs.Runs.{Runs, RunsJob, RunsKept, RunsRest, RunsWhich, ended_as}
use Rattle.cap_tool.specs.declared.outcomes.Outcome.TheVariants as outcomes
use Rattle.cap_tool.specs.declared.outcomes.RunStop.{RunStop}
use Rattle.cap_tool.specs.declared.regular.FileId.{FileId}

-- what was run is what its task says
pub runs-which : {R W N : Type 0} (gives : List ℕ → Option R → Type 0) (known : R → Opened)
    (makes : List (Option FileId) → Result (W × N) RunStop → Type 0) (sent : W → Outgoing)
    (commits : N → Result DroppedInfo RunStop → Result DroppedInfo RunStop → Type 0) (lacks_input : Bool) (job : Job)
    (result : Result DroppedInfo RunStop) (answer which : Bool)
    → answer ≡ is_surveying job.task → answer ≡ which
    → RunsWhich which gives known makes sent commits lacks_input job result
    → Runs gives known makes sent commits lacks_input job result
runs-which gives known makes sent commits lacks_input job result answer which is taken ran =
    subst (λ b. RunsWhich b gives known makes sent commits lacks_input job result) (sym taken ∙ is) ran

-- A job was done, and why its run stopped is known better.
pub RunsJob-as : (job : Job) (fails : List Bool) (files : List (List ℕ)) (old : List ℕ)
    (ended known : Result DroppedInfo RunStop)
    (new waiting : List ℕ) → ended_as known ≡ ended_as ended
    → RunsJob job fails files old ended new waiting → RunsJob job fails files old known new waiting
RunsJob-as job fails files old ended known new waiting same ran = record {
  answer = ran.answer;
  does = ran.does;
  finds = ran.finds;
  ends = subst (λ e. ((e ≡ ends_by ran.answer) × (waiting ≡ [])) ⊎ (e ≡ Err (outcomes.Fault faults.Write))) (sym same)
      ran.ends;
}

-- A job over other files does what the job does.
pub runs-over : (job other : Job) (kept : _) (fails : List Bool) (files : List (List ℕ)) (old : List ℕ)
    (ended : Result DroppedInfo RunStop) (new waiting : List ℕ) → other ≡ record job { files = kept; skips = false }
    → RunsJob other fails files old ended new waiting → RunsJob job fails files old ended new waiting
runs-over job other kept fails files old ended new waiting is ran =
    let same : RunsJob (record job { files = kept; skips = false }) fails files old ended new waiting =
    subst (λ j. RunsJob j fails files old ended new waiting) is ran in
    record { answer = same.answer; does = same.does; finds = same.finds; ends = same.ends }

-- The rest of a job was done over some files.
pub rest-kept : (job : Job) (refusals : List (Option Refusal)) (fails : List Bool) (files : List (List ℕ))
    (old : List ℕ) (ended : Result DroppedInfo RunStop) (new waiting : List ℕ) → 0 < length files
    → RunsKept job refusals fails files old ended new waiting → RunsRest job refusals fails files old ended new waiting
rest-kept job refusals fails [] old ended new waiting some kept = absurd (omega (arith, some))
rest-kept job refusals fails (bytes ∷ files) old ended new waiting some kept = kept
