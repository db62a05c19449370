-- What a command line asks for, by clap's matches of its words.
use Rattle.std.specs.Prelude.{◌≡◌, ◌⊎◌, ◌++◌, ℕ, List, [], length, codes, Bool, Option, Some, None, Result, Ok, Err}
use Rattle.std.specs.Prelude.{map, option_map, unwrap_or, is_some, IsTrue, IsFalse, ◌↔◌}
use Rattle.std.specs.Option.{option_or}
use Rattle.clap.specs.Words.{App, Row, Text, all_of, first_of, fault_of, subcommand_of, IsAmong}
use Rattle.clap.specs.declared.error.kind.ErrorKind.{ErrorKind}
use Rattle.clap.specs.declared.error.kind.ErrorKind.TheVariants as kind
use Rattle.cap_line.specs.Command.{IsCapt}
use Rattle.cap_bytes.specs.declared.formats.Format.{Format}
use Rattle.cap_time.specs.declared.stamps.Unit.{Unit as Fraction}
use Rattle.cap_line.specs.Jobs.{IsShownJob, IsWholeJob, can_have_unit, can_read_ipv6, can_replace, can_share, can_show}
use Rattle.cap_line.specs.Jobs.{can_skip, can_verify, data_by, format_by, ignored_by, inputs_fault, is_whole_task}
use Rattle.cap_line.specs.Jobs.{order_by}
use Rattle.cap_line.specs.Jobs.{task_by, time_by, top_by, unit_by}
use Rattle.cap_line.specs.declared.jobs.Job.{Job}
use Rattle.cap_line.specs.declared.jobs.Task.{Task}
use Rattle.cap_line.specs.declared.faults.LineFault.{LineFault}
use Rattle.cap_line.specs.declared.faults.LineFault.TheVariants.{Help, Line, Files, Input, Output, Memory}

-- what clap's error is to the user
abbrev pub fault_by : ErrorKind → LineFault
fault_by kind.DisplayHelp = Help
fault_by kind.DisplayVersion = Help
fault_by kind.OutOfMemory = Memory
fault_by _ = Line

-- the values of the argument of that name
abbrev pub names_in : Text → List Row → List Text
names_in name rows = unwrap_or (all_of name rows) []

-- the files that a subcommand's rows name, `diff` the two of its own arguments; its output and its format
abbrev pub files_in : List Row → List Text
files_in rows = names_in (codes "FILE") rows ++ names_in (codes "A") rows ++ names_in (codes "B") rows

abbrev pub out_in : List Row → Option Text
out_in rows = first_of (codes "out") rows

abbrev pub list_in : List Row → Option Text
list_in rows = first_of (codes "files0-from") rows

abbrev pub verify_in : List Row → Option Text
verify_in rows = first_of (codes "verify") rows

-- the file that names the captures in place of the words: one whose lines are verified, or a list of them
abbrev pub names_file_in : List Row → Option Text
names_file_in rows = option_or (verify_in rows) (list_in rows)

abbrev pub to_in : List Row → Option Format
to_in rows = format_by (first_of (codes "to") rows)

-- the unit of time that they ask for
abbrev pub unit_in : List Row → Option Fraction
unit_in rows = unit_by (first_of (codes "unit") rows)

-- how many bytes of a packet they ask for
abbrev pub data_in : List Row → Result (Option ℕ) LineFault
data_in rows = data_by (first_of (codes "data") rows)

-- how many conversations they ask for
abbrev pub top_in : List Row → Result (Option ℕ) LineFault
top_in rows = top_by (first_of (codes "top") rows)

-- The flag of that name was given or not.
abbrev pub Flags : Bool → Text → List Row → Type 0
Flags given name rows = IsTrue given ↔ (first_of name rows ≡ Some (codes "true"))

-- A task lacks what it takes.
abbrev pub Lacks : Text → List Row → Type 0
Lacks name rows =
    (task : Task) × (task_by name ≡ Some task) × IsFalse
    (is_whole_task task (length (files_in rows)) (to_in rows) (out_in rows))

-- The output is to take its name once all is done, and can't.
abbrev pub CannotReplace : List Row → Type 0
CannotReplace rows = (whole : Bool) × Flags whole (codes "whole") rows × IsFalse (can_replace whole (out_in rows))

-- Interfaces are to be shared, and can't be.
abbrev pub CannotShare : List Row → Type 0
CannotShare rows =
    (shares : Bool) × Flags shares (codes "share-interfaces") rows × IsFalse (can_share shares (to_in rows))

-- Times are to be written in a unit, and can't be.
abbrev pub CannotHaveUnit : List Row → Type 0
CannotHaveUnit rows = IsFalse (can_have_unit (unit_in rows) (to_in rows))

-- Lines are to be verified, and can't be.
abbrev pub CannotVerify : List Row → Type 0
CannotVerify rows =
    (names : Bool) × Flags names (codes "names") rows
    × IsFalse (can_verify (is_some (verify_in rows)) (is_some (list_in rows)) names)

-- Files that are refused are to be left out, and standard input is one of the files.
abbrev pub CannotSkip : List Row → Type 0
CannotSkip rows =
    (skips : Bool) × Flags skips (codes "skip-refused") rows × IsFalse (can_skip skips (files_in rows))

-- What is to be shown is no number of bytes or of conversations, or a task can't show it, or can't read the packets.
abbrev pub IsUnshown : Task → Bool → Bool → Bool → List Row → Type 0
IsUnshown task json class ipv6 rows =
    (data_in rows ≡ Err Line) ⊎ (top_in rows ≡ Err Line)
    ⊎ ((count : Option ℕ) × (data_in rows ≡ Ok count) × IsFalse (can_show task json count))
    ⊎ IsFalse (can_read_ipv6 task class ipv6)

-- The same of the task of that name, and the flags that were given.
abbrev pub CannotShow : Text → List Row → Type 0
CannotShow name rows =
    (task : Task) × (json class ipv6 : Bool) × (task_by name ≡ Some task) × Flags json (codes "json") rows
    × Flags class (codes "class") rows × Flags ipv6 (codes "ipv6") rows × IsUnshown task json class ipv6 rows

-- The files or the output are refused by that fault.
abbrev pub RefusesFiles : Text → List Row → LineFault → Type 0
RefusesFiles name rows fault =
    (task : Task) × (task_by name ≡ Some task)
    × (inputs_fault task (files_in rows) (names_file_in rows) (out_in rows) ≡ Err fault)

-- The job is what the rows say.
pub record HasRows (task : Task) (rows : List Row) (job : Job) : Type 0 where
  pub task_is : job.task ≡ task
  pub files : map (λ f. f.now) job.files.items ≡ files_in rows
  pub allow_cut : Flags job.allow_cut (codes "allow-cut") rows
  pub order : job.order ≡ order_by (first_of (codes "order") rows)
  pub to : job.to ≡ to_in rows
  pub unit : job.unit ≡ unit_in rows
  pub out : option_map (λ o. o.now) job.out ≡ out_in rows
  pub explain : Flags job.explain (codes "explain") rows
  pub whole : Flags job.whole (codes "whole") rows
  pub json : Flags job.json (codes "json") rows
  pub class : Flags job.class (codes "class") rows
  pub ipv6 : Flags job.ipv6 (codes "ipv6") rows
  pub digests : Flags job.digests (codes "digest") rows
  pub names : Flags job.names (codes "names") rows
  pub shares : Flags job.shares (codes "share-interfaces") rows
  pub skips : Flags job.skips (codes "skip-refused") rows
  pub list : option_map (λ l. l.now) job.list ≡ list_in rows
  pub verify : option_map (λ v. v.now) job.verify ≡ verify_in rows
  pub count : data_in rows ≡ Ok job.data
  pub top : top_in rows ≡ Ok job.top
  pub time : job.time ≡ time_by (first_of (codes "time") rows)
  pub ignored : job.ignored ≡ ignored_by (names_in (codes "ignore") rows)

-- What a subcommand of that name with those rows gives: a whole job, or the first fault. A name that is no task's, a
-- task that lacks what it takes, standard output that is to take a name, interfaces that can't be shared, times that
-- can't be written in a unit, what can't be shown, and lines that can't be verified, are refused as the line; and
-- standard input, if files are to be left out.
abbrev pub IsJobBy : Text → List Row → Result Job LineFault → Type 0
IsJobBy name rows (Ok job) =
    (task : Task) × (task_by name ≡ Some task)
    × (inputs_fault task (files_in rows) (names_file_in rows) (out_in rows) ≡ Ok tt)
    × HasRows task rows job × IsWholeJob job × IsShownJob job
IsJobBy name rows (Err Help) = ⊥
IsJobBy name rows (Err Line) =
    (task_by name ≡ None) ⊎ Lacks name rows ⊎ CannotReplace rows ⊎ CannotShare rows ⊎ CannotHaveUnit rows
    ⊎ CannotShow name rows ⊎ CannotVerify rows ⊎ RefusesFiles name rows Line
IsJobBy name rows (Err Files) = RefusesFiles name rows Files
IsJobBy name rows (Err Input) = RefusesFiles name rows Input ⊎ CannotSkip rows
IsJobBy name rows (Err Output) = RefusesFiles name rows Output
IsJobBy name rows (Err Memory) = Unit {0}

-- What the subcommand that was entered, with its rows, gives.
abbrev pub IsJobOf : Option (Text × List Row) → Result Job LineFault → Type 0
IsJobOf (Some entered) r = IsJobBy entered.0 entered.1 r
IsJobOf None r = r ≡ Err Line

-- The words are a line that clap takes, and their subcommand gives the answer.
pub record AnswersLine (words : List Text) (r : Result Job LineFault) (app : App) : Type 0 where
  pub is_capt : IsCapt app
  pub taken : fault_of app words ≡ []
  pub job : IsJobOf (subcommand_of app words) r

-- Clap refuses the words, by an error of that kind.
pub record Refuses (words : List Text) (k : ErrorKind) (app : App) : Type 0 where
  pub is_capt : IsCapt app
  pub refused : IsAmong k (fault_of app words)

-- Clap refuses the words, or returns help or the version in place of matches.
abbrev pub IsRefused : List Text → Type 0
IsRefused words = (app : App) × (k : ErrorKind) × Refuses words k app

-- Clap takes the words, and they give no job.
abbrev pub IsNoJob : List Text → Type 0
IsNoJob words = (app : App) × AnswersLine words (Err Line) app

-- What `parse` returns at the words of a command line, the first of which is the program's name.
abbrev pub Parses : List Text → Result Job LineFault → Type 0
Parses words (Ok job) = (app : App) × AnswersLine words (Ok job) app
Parses words (Err Help) = (app : App) × (k : ErrorKind) × (fault_by k ≡ Help) × Refuses words k app
Parses words (Err Line) =
    ((app : App) × (k : ErrorKind) × (fault_by k ≡ Line) × Refuses words k app) ⊎ IsNoJob words
Parses words (Err Files) = (app : App) × AnswersLine words (Err Files) app
Parses words (Err Input) = (app : App) × AnswersLine words (Err Input) app
Parses words (Err Output) = (app : App) × AnswersLine words (Err Output) app
Parses words (Err Memory) = Unit {0}
