-- What a job has, and what a command line's words name in one.
use Rattle.std.specs.Prelude.{◌&&◌, ◌||◌, ◌==◌, ◌≤◌, ℕ, not, Bool, true, false, List, length, codes, count_by, Option}
use Rattle.std.specs.Prelude.{Some, None, is_some, Result, Ok, Err, if◌then◌else◌, nat_le, nat_lt, option_map, vec_len}
use Rattle.std.specs.Prelude.{IsTrue, IfSome, IsSome, is_none, map}
use Rattle.std.specs.Option.{option_map_or, option_or}
use Rattle.std.specs.Char.{is_ascii_digit}
use Rattle.std.specs.Str.{bytes_eq}
use Rattle.std.specs.Str.Parse.{digits_value}
use Rattle.std.specs.List.{list_all, list_any}
use Rattle.cap_bytes.specs.declared.numbers.Order.{Order}
use Rattle.cap_bytes.specs.declared.numbers.Order.TheVariants.{Big, Little}
use Rattle.cap_bytes.specs.declared.formats.Format.{Format}
use Rattle.cap_bytes.specs.declared.formats.Format.TheVariants.{Pcap, Pcapng}
use Rattle.cap_print.specs.declared.forms.TimeForm.{TimeForm}
use Rattle.cap_print.specs.declared.forms.TimeForm.TheVariants.{Decimal, Exact, Utc}
use Rattle.cap_time.specs.declared.stamps.Unit.{Unit as Fraction}
use Rattle.cap_time.specs.declared.stamps.Unit.TheVariants.{Micro, Nano}
use Rattle.cap_line.specs.declared.jobs.Ignored.{Ignored}
use Rattle.cap_line.specs.declared.jobs.Job.{Job}
use Rattle.cap_line.specs.declared.jobs.Task.{Task}
use Rattle.cap_line.specs.declared.jobs.Task.TheVariants as tasks
use Rattle.cap_line.specs.declared.faults.LineFault.{LineFault}
use Rattle.cap_line.specs.declared.faults.LineFault.TheVariants.{Line, Files, Input, Output}

-- whether the output is one of the files, and not standard output
abbrev pub is_also_file : Option (List ℕ) → List (List ℕ) → Bool
is_also_file None files = false
is_also_file (Some out) files = not (bytes_eq out (codes "-")) && list_any (λ f. bytes_eq f out) files

-- the task that a subcommand's name is for
abbrev pub task_by : List ℕ → Option Task
task_by name =
    if bytes_eq name (codes "list") then Some tasks.List else
    if bytes_eq name (codes "blocks") then Some tasks.Blocks else
    if bytes_eq name (codes "diff") then Some tasks.Diff else
    if bytes_eq name (codes "digest") then Some tasks.Digest else
    if bytes_eq name (codes "check") then Some tasks.Check else
    if bytes_eq name (codes "info") then Some tasks.Info else
    if bytes_eq name (codes "report") then Some tasks.Report else
    if bytes_eq name (codes "convert") then Some tasks.Convert else
    if bytes_eq name (codes "merge") then Some tasks.Merge else
    if bytes_eq name (codes "join") then Some tasks.Join else None

-- the order that is named: little if none is
abbrev pub order_by : Option (List ℕ) → Order
order_by None = Little
order_by (Some name) = if bytes_eq name (codes "big") then Big else Little

-- the format that is named
abbrev pub format_by : Option (List ℕ) → Option Format
format_by None = None
format_by (Some name) =
    if bytes_eq name (codes "pcap") then Some Pcap else if bytes_eq name (codes "pcapng") then Some Pcapng else None

-- the form of times that is named: exact if none is
abbrev pub time_by : Option (List ℕ) → TimeForm
time_by None = Exact
time_by (Some name) =
    if bytes_eq name (codes "decimal") then Decimal else if bytes_eq name (codes "utc") then Utc else Exact

-- the unit of time that is named
abbrev pub unit_by : Option (List ℕ) → Option Fraction
unit_by None = None
unit_by (Some name) =
    if bytes_eq name (codes "micro") then Some Micro else if bytes_eq name (codes "nano") then Some Nano else None

-- how many files a task takes at most
abbrev pub most_files : Task → ℕ
most_files tasks.List = 32
most_files tasks.Blocks = 32
most_files tasks.Diff = 32
most_files tasks.Digest = 4294967295
most_files tasks.Check = 4294967295
most_files tasks.Info = 32
most_files tasks.Report = 32
most_files tasks.Convert = 32
most_files tasks.Merge = 32
most_files tasks.Join = 32

-- what the files and the output that a task is given are refused by, the first of these: no file, more than the task
-- takes, standard input twice, an output other than standard output that is one of them
abbrev pub files_fault : Task → List (List ℕ) → Option (List ℕ) → Result (Unit {0}) LineFault
files_fault task files out =
    if nat_lt (length files) 1 then Err Line else
    if nat_lt (most_files task) (length files) then Err Files else
    if nat_lt 1 (count_by (λ f. bytes_eq f (codes "-")) files) then Err Input else
    if is_also_file out files then Err Output else Ok tt

-- whether a task takes any number of files, one after another, and a list of them in place of their names
abbrev pub is_surveying : Task → Bool
is_surveying tasks.Digest = true
is_surveying tasks.Check = true
is_surveying _ = false

-- whether a task leaves out the files that are refused, if that is asked for: `info` and `report` do
abbrev pub is_skipping : Task → Bool → Bool
is_skipping tasks.Info skips = skips
is_skipping tasks.Report skips = skips
is_skipping _ skips = false

-- what these are refused by where a list may stand in place of the files: a list with files, or of a task that takes
-- none
abbrev pub inputs_fault : Task → List (List ℕ) → Option (List ℕ) → Option (List ℕ) → Result (Unit {0}) LineFault
inputs_fault task files None out = files_fault task files out
inputs_fault task files (Some list) out = if is_surveying task && (length files == 0) then Ok tt else Err Line

-- how many files a job names at least, which may have a list in their place
abbrev pub least_files : Option (List ℕ) → ℕ
least_files None = 1
least_files (Some list) = 0

-- whether a task has what it takes, with that many files: one file if it is of one, two for `diff`, a format for
-- `convert`, an output if it writes one
abbrev pub is_whole_task : Task → ℕ → Option Format → Option (List ℕ) → Bool
is_whole_task tasks.List files to out = files == 1
is_whole_task tasks.Blocks files to out = files == 1
is_whole_task tasks.Diff files to out = files == 2
is_whole_task tasks.Digest files to out = true
is_whole_task tasks.Check files to out = true
is_whole_task tasks.Info files to out = true
is_whole_task tasks.Report files to out = true
is_whole_task tasks.Convert files to out = (files == 1) && is_some to && is_some out
is_whole_task tasks.Merge files to out = is_some out
is_whole_task tasks.Join files to out = is_some out

-- whether the output can take its name once all is done, if that is asked for: standard output can't
abbrev pub can_replace : Bool → Option (List ℕ) → Bool
can_replace whole None = true
can_replace whole (Some out) = not (whole && bytes_eq out (codes "-"))

-- whether interfaces can be shared, if that is asked for: a pcap file has one interface
abbrev pub can_share : Bool → Option Format → Bool
can_share shares None = true
can_share shares (Some Pcap) = not shares
can_share shares (Some Pcapng) = true

-- whether files that are refused can be left out, if that is asked for: standard input can't be read twice
abbrev pub can_skip : Bool → List (List ℕ) → Bool
can_skip skips files = not (skips && list_any (λ f. bytes_eq f (codes "-")) files)

-- whether times can be written in a unit, if one is asked for: only the header of a pcap file has one
abbrev pub can_have_unit : Option Fraction → Option Format → Bool
can_have_unit unit None = is_none unit
can_have_unit unit (Some Pcap) = true
can_have_unit unit (Some Pcapng) = is_none unit

-- whether the lines of a file can be verified, if that is asked for: a list of names besides, or names that are asked
-- for, are refused with it
abbrev pub can_verify : Bool → Bool → Bool → Bool
can_verify verifies has_list has_names = not verifies || (not has_list && not has_names)

-- whether a text is one decimal digit or more, and nothing else
abbrev pub is_digits : List ℕ → Bool
is_digits text = nat_lt 0 (length text) && list_all is_ascii_digit text

-- the number that a text is in decimal digits, of which the first may be zeros, if it is at most 4,294,967,295
abbrev pub number_in : List ℕ → Option ℕ
number_in text =
    if is_digits text && nat_le (digits_value 10 text) 4294967295 then Some (digits_value 10 text) else None

-- the number that a text is in decimal digits, of which the first may be zeros, if it is at most 262,144
abbrev pub count_in : List ℕ → Option ℕ
count_in text = if is_digits text && nat_le (digits_value 10 text) 262144 then Some (digits_value 10 text) else None

-- how many bytes of each packet a text asks for, if one is given: a text that is no such number is refused
abbrev pub data_by : Option (List ℕ) → Result (Option ℕ) LineFault
data_by None = Ok None
data_by (Some text) = if is_some (count_in text) then Ok (count_in text) else Err Line

-- how many conversations a text asks for, if one is given: a number from 1 to 4,294,967,295; any other text is refused
abbrev pub top_by : Option (List ℕ) → Result (Option ℕ) LineFault
top_by None = Ok None
top_by (Some text) =
    if option_map_or (λ most. nat_lt 0 most) (number_in text) false then Ok (number_in text) else Err Line

-- what is ignored of packets that are compared, by the words that name it
abbrev pub ignored_by : List (List ℕ) → Ignored
ignored_by words =
    record {
      time = list_any (λ w. bytes_eq w (codes "time")) words;
      link = list_any (λ w. bytes_eq w (codes "link")) words;
      original = list_any (λ w. bytes_eq w (codes "original")) words;
    }

-- whether a task prints
abbrev pub is_printing : Task → Bool
is_printing tasks.List = true
is_printing tasks.Blocks = true
is_printing tasks.Diff = true
is_printing tasks.Digest = true
is_printing tasks.Check = true
is_printing tasks.Info = true
is_printing tasks.Report = true
is_printing tasks.Convert = false
is_printing tasks.Merge = false
is_printing tasks.Join = false

-- whether a task prints packets
abbrev pub is_listing : Task → Bool
is_listing tasks.List = true
is_listing tasks.Diff = true
is_listing _ = false

-- whether a task can show what is asked for: JSON Lines if it prints, and a number of bytes of each packet if it prints
-- packets as JSON Lines
abbrev pub can_show : Task → Bool → Option ℕ → Bool
can_show task json None = not json || is_printing task
can_show task json (Some count) = json && is_listing task

-- whether a task can read IPv6 packets, if that is asked for: `list` looks into no packet unless it says its class
abbrev pub can_read_ipv6 : Task → Bool → Bool → Bool
can_read_ipv6 tasks.List class ipv6 = class || not ipv6
can_read_ipv6 _ class ipv6 = true

-- the file that names the captures of a job, in place of its own files: one whose lines are verified, or a list of them
abbrev pub names_file : Job → Option (List ℕ)
names_file job = option_or (option_map (λ v. v.now) job.verify) (option_map (λ l. l.now) job.list)

-- A job has 1 file or more, or a file that names them if its task takes one, at most as many files as its task takes,
-- and all else that its task takes.
pub record IsWholeJob (job : Job) : Type 0 where
  pub some : least_files (names_file job) ≤ vec_len job.files
  pub listed : IsSome (names_file job) → IsTrue (is_surveying job.task)
  pub most : vec_len job.files ≤ most_files job.task
  pub taken : IsTrue (is_whole_task job.task (vec_len job.files) job.to (option_map (λ o. o.now) job.out))
  pub replaced : IsTrue (can_replace job.whole (option_map (λ o. o.now) job.out))
  pub shared : IsTrue (can_share job.shares job.to)
  pub skipped : IsTrue (can_skip job.skips (map (λ f. f.now) job.files.items))
  pub in_unit : IsTrue (can_have_unit job.unit job.to)

-- A job's task can show what is asked for, at most 262,144 bytes of each packet, and can read what it is to read.
pub record IsShownJob (job : Job) : Type 0 where
  pub shown : IsTrue (can_show job.task job.json job.data)
  pub read : IsTrue (can_read_ipv6 job.task job.class job.ipv6)
  pub most : IfSome job.data (λ count. count ≤ 262144)
