-- A run of the program: a job, over what a system opens and creates, and how it ends.
use Rattle.std.specs.Prelude.{◌≡◌, ◌⊎◌, ℕ, List, [], ◌∷◌, ◌++◌, length, map, Bool, true, false, Option, Some}
use Rattle.std.specs.Prelude.{Result, Ok, Err, IfOk, IsTrue, None, option_map}
use Rattle.std.specs.List.{list_all}
use Rattle.cap_bytes.specs.declared.faults.Fault.{Fault}
use Rattle.cap_bytes.specs.declared.faults.Fault.TheVariants as faults
use Rattle.cap_bytes.specs.declared.faults.Refusal.{Refusal}
use Rattle.cap_bytes.specs.Printing.{PrintsFront}
use Rattle.cap_check.specs.Checking.{Opened}
use Rattle.cap_line.specs.Jobs.{is_skipping, is_surveying}
use Rattle.cap_line.specs.declared.jobs.Job.{Job}
use Rattle.cap_tool.specs.CheckedNames.{AreGiven, ChecksNames}
use Rattle.cap_tool.specs.ListedNames.{ReadsList, StopsAtList, StopsReading, listed_fault, listed_names}
use Rattle.cap_commands.specs.Jobs.{Does, Finds, form_by, found_in, line_by, tail_of}
use Rattle.cap_commands.specs.Left.{done_of}
use Rattle.cap_commands.specs.Skipping.{kept_of, left_out_lines}
use Rattle.cap_tool.specs.Outcomes.{ends_by}
use Rattle.cap_tool.specs.Outlets.{Outgoing}
use Rattle.cap_tool.specs.Streams.{StopsAtDash, StopsOpening}
use Rattle.cap_tool.specs.DigestLines.{Entry, IsFirstOther, entries_in}
use Rattle.cap_tool.specs.Verdicts.{Verifies}
use Rattle.cap_tool.specs.Skipped.{FindsRefusals, StopsFinding, ended_skipping, outcome_on_line}
use Rattle.cap_line.specs.declared.faults.LineFault.{LineFault}
use Rattle.cap_line.specs.declared.jobs.Task.{Task}
use Rattle.cap_commands.specs.declared.jobs.Finding.{Finding}
use Rattle.cap_commands.specs.declared.jobs.Finding.TheVariants.{NotWhole}
use Rattle.cap_commands.specs.declared.left.DroppedInfo.{DroppedInfo}
use Rattle.cap_tool.specs.declared.outcomes.Outcome.{Outcome}
use Rattle.cap_tool.specs.declared.outcomes.Outcome.TheVariants as outcomes
use Rattle.cap_tool.specs.declared.outcomes.RunStop.{RunStop}
use Rattle.cap_tool.specs.declared.regular.FileId.{FileId}

-- how a run ended, without the cause
abbrev pub ended_as : {A : Type 0} → Result A RunStop → Result (Unit {0}) Outcome
ended_as (Ok done) = Ok tt
ended_as (Err stop) = Err stop.outcome

-- the outcome of a run that ended so
abbrev pub outcome_after : {A : Type 0} → Result A RunStop → Outcome
outcome_after (Ok done) = outcomes.Done
outcome_after (Err stop) = stop.outcome

-- A run ends by what its command returned, and nothing waits in the writer's buffer; or what waited could not be
-- written, and it ends so.
abbrev pub EndsBy : Result Finding Fault → List ℕ → Result DroppedInfo RunStop → Type 0
EndsBy answer waiting ended =
    ((ended_as ended ≡ ends_by answer) × (waiting ≡ []))
    ⊎ (ended_as ended ≡ Err (outcomes.Fault faults.Write))

-- A job was done over files of those bytes, of which a read can fail or not: it wrote what it writes, and the run ended
-- by what it returned and found.
pub record RunsJob (job : Job) (fails : List Bool) (files : List (List ℕ)) (old : List ℕ)
    (ended : Result DroppedInfo RunStop) (new waiting : List ℕ) : Type 0 where
  pub answer : Result Finding Fault
  pub does : Does job fails files (found_in answer) old (done_of answer) new
  pub finds : IfOk answer (Finds job files)
  pub ends : EndsBy answer waiting ended

-- the names of a job's files
abbrev pub names_of : Job → List (List ℕ)
names_of job = map (λ n. n.now) job.files.items

-- A run stopped before its job was begun: standard input, which a job names, is closed; a file can't be opened; the
-- output can't be created; or there was no memory.
abbrev pub StopsFirst : {R M : Type 0} → (List ℕ → Option R → Type 0)
    → (List (Option FileId) → Result M RunStop → Type 0) → Bool → Job → Result DroppedInfo RunStop → Type 0
StopsFirst gives makes lacks_input job (Ok done) = ⊥
StopsFirst gives makes lacks_input job (Err stop) =
    (IsTrue lacks_input × StopsAtDash (names_of job) stop.outcome)
    ⊎ StopsOpening gives (names_of job) stop.outcome
    ⊎ ((ids : List (Option FileId)) × makes ids (Err stop))

-- A job other than `digest` and `check` was done: its files were opened, each as its opener gives it, and its output
-- was created; if these tell their bytes, the job was done over them; and the output was committed by how that ended.
pub record RunsFiles {R W N : Type 0} (gives : List ℕ → Option R → Type 0) (known : R → Opened)
    (makes : List (Option FileId) → Result (W × N) RunStop → Type 0) (sent : W → Outgoing)
    (commits : N → Result DroppedInfo RunStop → Result DroppedInfo RunStop → Type 0) (job : Job)
    (result : Result DroppedInfo RunStop) : Type 0 where
  pub readers : List R
  pub ids : List (Option FileId)
  pub writer : W
  pub name : N
  pub written : W
  pub ended : Result DroppedInfo RunStop
  pub opened : AreGiven gives (names_of job) (map Some readers)
  pub all : length readers ≡ length (names_of job)
  pub made : makes ids (Ok (writer, name))
  pub runs : IsTrue (list_all (λ r. (known r).told) readers) → IsTrue (sent writer).told
      → RunsJob job (map (λ r. (known r).can_fail) readers) (map (λ r. (known r).bytes) readers) (sent writer).held
      ended (sent written).held (sent written).waiting
  pub committed : commits name ended result

-- A `digest` or a `check` of files of those names was done: its output was created; if that tells its bytes, the files
-- were opened and checked, one after another, and the run ended by what was found; and the output was committed by how
-- that ended.
pub record RunsChecks {R W N : Type 0} (gives : List ℕ → Option R → Type 0) (known : R → Opened)
    (makes : List (Option FileId) → Result (W × N) RunStop → Type 0) (sent : W → Outgoing)
    (commits : N → Result DroppedInfo RunStop → Result DroppedInfo RunStop → Type 0) (job : Job)
    (names : List (List ℕ)) (result : Result DroppedInfo RunStop) : Type 0 where
  pub writer : W
  pub name : N
  pub written : W
  pub answer : Result Finding Fault
  pub ended : Result DroppedInfo RunStop
  pub made : makes [] (Ok (writer, name))
  pub checks : IsTrue (sent writer).told
      → ChecksNames gives known (line_by job.task job.digests) (form_by job.json job.time) (tail_of job.allow_cut)
      job.names names (sent writer).held answer (sent written).held
  pub ends : IsTrue (sent writer).told → EndsBy answer (sent written).waiting ended
  pub committed : commits name ended result

-- The rest of a job was done after the lines of the files that are left out, over the files that are kept, with those
-- bytes, and by whether a read of each can fail: over none, nothing more was written.
pub record RunsKept (job : Job) (refusals : List (Option Refusal)) (fails : List Bool) (files : List (List ℕ))
    (old : List ℕ) (ended : Result DroppedInfo RunStop) (new waiting : List ℕ) : Type 0 where
  pub done : Result DroppedInfo RunStop
  pub runs : RunsJob job fails files old done new waiting
  pub ends : ended_as ended ≡ ended_skipping refusals (ended_as done)

abbrev pub RunsRest : Job → List (Option Refusal) → List Bool → List (List ℕ) → List ℕ → Result DroppedInfo RunStop
    → List ℕ → List ℕ → Type 0
RunsRest job refusals fails [] old ended new waiting = (new ≡ old) × EndsBy (Ok NotWhole) waiting ended
RunsRest job refusals fails (bytes ∷ files) old ended new waiting =
    RunsKept job refusals fails (bytes ∷ files) old ended new waiting

-- A job was done that leaves out the files that are refused, by the refusals of all files: the lines of these were
-- written, and then what the job writes over the others; or a write of the lines failed.
abbrev pub SkipsJob : Job → List (Option Refusal) → List Bool → List (List ℕ) → List ℕ → Result DroppedInfo RunStop
    → List ℕ → List ℕ → Type 0
SkipsJob job refusals fails files old ended new waiting =
    (PrintsFront (left_out_lines (form_by job.json job.time) refusals) old new
    × (ended_as ended ≡ Err (outcomes.Fault faults.Write)))
    ⊎ RunsRest job refusals fails files (old ++ left_out_lines (form_by job.json job.time) refusals) ended new waiting

-- A job stopped that leaves out the files that are refused, and wrote nothing: the refusal of a file wasn't found, or
-- one that is kept can't be opened once more.
abbrev pub StopsSkipping : {R : Type 0} → (List ℕ → Option R → Type 0) → (R → Opened) → Job → Result DroppedInfo RunStop
    → Type 0
StopsSkipping gives known job (Ok done) = ⊥
StopsSkipping gives known job (Err stop) =
    StopsFinding gives known (names_of job) stop.outcome ⊎ (stop.outcome ≡ outcomes.Fault faults.Memory)
    ⊎ ((refusals : List (Option Refusal)) × (outcome : Outcome)
    × FindsRefusals gives known (tail_of job.allow_cut) (names_of job) refusals
    × StopsOpening gives (kept_of refusals (names_of job)) outcome
    × (stop.outcome ≡ outcome_on_line refusals outcome))

-- A job was done that leaves out the files that are refused: the refusals of all files were found, and the others were
-- opened once more, each as its opener gives it; if these tell their bytes, the job was done over them.
pub record SkipsFiles {R : Type 0} (gives : List ℕ → Option R → Type 0) (known : R → Opened) (job : Job)
    (old : Outgoing) (ended : Result DroppedInfo RunStop) (new : Outgoing) : Type 0 where
  pub refusals : List (Option Refusal)
  pub readers : List R
  pub found : FindsRefusals gives known (tail_of job.allow_cut) (names_of job) refusals
  pub opened : AreGiven gives (kept_of refusals (names_of job)) (map Some readers)
  pub all : length readers ≡ length (kept_of refusals (names_of job))
  pub runs : IsTrue (list_all (λ r. (known r).told) readers) → IsTrue old.told
      → SkipsJob job refusals (map (λ r. (known r).can_fail) readers) (map (λ r. (known r).bytes) readers) old.held
      ended new.held new.waiting

-- A job that leaves out the files that are refused was run: its output was created; it stopped, and nothing was written
-- there, or it was done; and the output was committed by how that ended.
pub record RunsSkipping {R W N : Type 0} (gives : List ℕ → Option R → Type 0) (known : R → Opened)
    (makes : List (Option FileId) → Result (W × N) RunStop → Type 0) (sent : W → Outgoing)
    (commits : N → Result DroppedInfo RunStop → Result DroppedInfo RunStop → Type 0) (job : Job)
    (result : Result DroppedInfo RunStop) : Type 0 where
  pub writer : W
  pub name : N
  pub written : W
  pub ended : Result DroppedInfo RunStop
  pub made : makes [] (Ok (writer, name))
  pub skips : ((written ≡ writer) × StopsSkipping gives known job ended)
      ⊎ SkipsFiles gives known job (sent writer) ended (sent written)
  pub committed : commits name ended result

-- the output of a run that reads no regular file that is known yet could not be created
abbrev pub StopsMaking : {M : Type 0} → (List (Option FileId) → Result M RunStop → Type 0) → Result DroppedInfo RunStop
    → Type 0
StopsMaking makes result = (stop : RunStop) × (result ≡ Err stop) × makes [] (Err stop)

-- A job was run whose files aren't opened one after another, by whether it leaves out those that are refused: then its
-- output could not be created, or it was run; else it stopped before its output was created, or it was done.
abbrev pub RunsEither : {R W N : Type 0} → Bool → (List ℕ → Option R → Type 0) → (R → Opened)
    → (List (Option FileId) → Result (W × N) RunStop → Type 0) → (W → Outgoing)
    → (N → Result DroppedInfo RunStop → Result DroppedInfo RunStop → Type 0) → Bool → Job → Result DroppedInfo RunStop
    → Type 0
RunsEither true gives known makes sent commits lacks_input job result =
    StopsMaking makes result ⊎ RunsSkipping gives known makes sent commits job result
RunsEither false gives known makes sent commits lacks_input job result =
    StopsFirst gives makes lacks_input job result ⊎ RunsFiles gives known makes sent commits job result

-- A job was run, by whether its files are opened one after another, as of `digest` and `check`: its output could not be
-- created, or it was done.
abbrev pub RunsWhich : {R W N : Type 0} → Bool → (List ℕ → Option R → Type 0) → (R → Opened)
    → (List (Option FileId) → Result (W × N) RunStop → Type 0) → (W → Outgoing)
    → (N → Result DroppedInfo RunStop → Result DroppedInfo RunStop → Type 0) → Bool → Job → Result DroppedInfo RunStop
    → Type 0
RunsWhich true gives known makes sent commits lacks_input job result =
    StopsMaking makes result ⊎ RunsChecks gives known makes sent commits job (names_of job) result
RunsWhich false gives known makes sent commits lacks_input job result =
    RunsEither (is_skipping job.task job.skips) gives known makes sent commits lacks_input job result

-- a job was run over its files
abbrev pub Runs : {R W N : Type 0} → (List ℕ → Option R → Type 0) → (R → Opened)
    → (List (Option FileId) → Result (W × N) RunStop → Type 0) → (W → Outgoing)
    → (N → Result DroppedInfo RunStop → Result DroppedInfo RunStop → Type 0) → Bool → Job → Result DroppedInfo RunStop
    → Type 0
Runs gives known makes sent commits lacks_input job result =
    RunsWhich (is_surveying job.task) gives known makes sent commits lacks_input job result

-- The list of that name was read, and the captures that it names were checked one after another, unless the output
-- could not be created.
pub record RunsListed {R W N : Type 0} (gives : List ℕ → Option R → Type 0) (known : R → Opened)
    (makes : List (Option FileId) → Result (W × N) RunStop → Type 0) (sent : W → Outgoing)
    (commits : N → Result DroppedInfo RunStop → Result DroppedInfo RunStop → Type 0) (job : Job) (list : List ℕ)
    (result : Result DroppedInfo RunStop) : Type 0 where
  pub bytes : List ℕ
  pub reads : ReadsList gives known list bytes
  pub taken : listed_fault job.task list (listed_names bytes) ≡ Ok tt
  pub runs : StopsMaking makes result
      ⊎ RunsChecks gives known makes sent commits job (listed_names bytes) result

-- A job was run, whose list of captures is that, if it has one: it stopped at the list, or was run over the captures
-- that the list names; without a list it was run over its files.
abbrev pub RunsBy : {R W N : Type 0} → Option (List ℕ) → (List ℕ → Option R → Type 0) → (R → Opened)
    → (List (Option FileId) → Result (W × N) RunStop → Type 0) → (W → Outgoing)
    → (N → Result DroppedInfo RunStop → Result DroppedInfo RunStop → Type 0) → Bool → Job → Result DroppedInfo RunStop
    → Type 0
RunsBy None gives known makes sent commits lacks_input job result =
    Runs gives known makes sent commits lacks_input job result
RunsBy (Some list) gives known makes sent commits lacks_input job result =
    ((stop : RunStop) × (result ≡ Err stop) × StopsAtList gives known job.task list stop)
    ⊎ RunsListed gives known makes sent commits job list result

-- Lines that `digest --names` printed were verified: the output was created; if that tells its bytes, what is said of
-- the lines was written, and the run ended by what was found; and the output was committed by how that ended.
pub record RunsVerify {R W N : Type 0} (gives : List ℕ → Option R → Type 0) (known : R → Opened)
    (makes : List (Option FileId) → Result (W × N) RunStop → Type 0) (sent : W → Outgoing)
    (commits : N → Result DroppedInfo RunStop → Result DroppedInfo RunStop → Type 0) (job : Job)
    (entries : List Entry) (result : Result DroppedInfo RunStop) : Type 0 where
  pub writer : W
  pub name : N
  pub written : W
  pub answer : Result Finding Fault
  pub ended : Result DroppedInfo RunStop
  pub made : makes [] (Ok (writer, name))
  pub verifies : IsTrue (sent writer).told
      → Verifies gives (option_map known) (tail_of job.allow_cut) (form_by job.json job.time) entries
      (sent writer).held answer
      (sent written).held
  pub ends : IsTrue (sent writer).told → EndsBy answer (sent written).waiting ended
  pub committed : commits name ended result

-- A run stopped at the list of lines of that name: it could not be read, one of its lines is none, or the names that
-- they have are refused.
abbrev pub StopsAtLines : {R : Type 0} → (List ℕ → Option R → Type 0) → (R → Opened) → Task → List ℕ → RunStop → Type 0
StopsAtLines gives known task list stop =
    StopsReading gives known list stop
    ⊎ ((bytes : List ℕ) × (line : ℕ) × ReadsList gives known list bytes × IsFirstOther bytes line
    × (stop.outcome ≡ outcomes.ListLine line))
    ⊎ ((bytes : List ℕ) × (entries : List Entry) × (fault : LineFault) × ReadsList gives known list bytes
    × (map Some entries ≡ entries_in bytes)
    × (listed_fault task list (map (λ e. e.name) entries) ≡ Err fault) × (stop.outcome ≡ outcomes.Line fault))

-- The list of lines of that name was read, and its lines were verified, unless the output could not be created.
pub record RunsLines {R W N : Type 0} (gives : List ℕ → Option R → Type 0) (known : R → Opened)
    (makes : List (Option FileId) → Result (W × N) RunStop → Type 0) (sent : W → Outgoing)
    (commits : N → Result DroppedInfo RunStop → Result DroppedInfo RunStop → Type 0) (job : Job) (list : List ℕ)
    (result : Result DroppedInfo RunStop) : Type 0 where
  pub bytes : List ℕ
  pub entries : List Entry
  pub reads : ReadsList gives known list bytes
  pub lines : map Some entries ≡ entries_in bytes
  pub taken : listed_fault job.task list (map (λ e. e.name) entries) ≡ Ok tt
  pub runs : StopsMaking makes result ⊎ RunsVerify gives known makes sent commits job entries result

-- the lines of the list of that name were verified, or the run stopped at the list
abbrev pub RunsVerified : {R W N : Type 0} → (List ℕ → Option R → Type 0) → (R → Opened)
    → (List (Option FileId) → Result (W × N) RunStop → Type 0) → (W → Outgoing)
    → (N → Result DroppedInfo RunStop → Result DroppedInfo RunStop → Type 0) → Job → List ℕ
    → Result DroppedInfo RunStop → Type 0
RunsVerified gives known makes sent commits job list result =
    ((stop : RunStop) × (result ≡ Err stop) × StopsAtLines gives known job.task list stop)
    ⊎ RunsLines gives known makes sent commits job list result

-- A job was run, whose list of lines to be verified is that, if it has one; without, by its list of captures, if it has
-- one.
abbrev pub RunsOver : {R W N : Type 0} → Option (List ℕ) → (List ℕ → Option R → Type 0) → (R → Opened)
    → (List (Option FileId) → Result (W × N) RunStop → Type 0) → (W → Outgoing)
    → (N → Result DroppedInfo RunStop → Result DroppedInfo RunStop → Type 0) → Bool → Job → Result DroppedInfo RunStop
    → Type 0
RunsOver None gives known makes sent commits lacks_input job result =
    RunsBy (option_map (λ l. l.now) job.list) gives known makes sent commits lacks_input job result
RunsOver (Some list) gives known makes sent commits lacks_input job result =
    RunsVerified gives known makes sent commits job list result

-- a job was run, by its list of lines or of captures, if it has one
abbrev pub RunsAll : {R W N : Type 0} → (List ℕ → Option R → Type 0) → (R → Opened)
    → (List (Option FileId) → Result (W × N) RunStop → Type 0) → (W → Outgoing)
    → (N → Result DroppedInfo RunStop → Result DroppedInfo RunStop → Type 0) → Bool → Job → Result DroppedInfo RunStop
    → Type 0
RunsAll gives known makes sent commits lacks_input job result =
    RunsOver (option_map (λ v. v.now) job.verify) gives known makes sent commits lacks_input job result
