-- What a command is asked for in numbers.
use Rattle.std.specs.Prelude.{◌==◌, ◌&&◌, ◌||◌, ℕ, Bool, true, false, not, nat_le, nat_lt, Option, Some, None}
use Rattle.std.specs.Prelude.{if◌then◌else◌}
use Rattle.cap_line.specs.Jobs.{can_have_unit, can_read_ipv6, can_share, can_show}
use Rattle.cap_line.specs.declared.jobs.Ignored.{Ignored}
use Rattle.cap_line.specs.declared.jobs.Task.{Task}
use Rattle.cap_line.specs.declared.jobs.Task.TheVariants as tasks
use Rattle.cap_print.specs.declared.forms.TimeForm.{TimeForm}
use Rattle.cap_print.specs.declared.forms.TimeForm.TheVariants.{Decimal, Exact, Utc}
use Rattle.cap_time.specs.declared.stamps.Unit.{Unit as Fraction}
use Rattle.cap_time.specs.declared.stamps.Unit.TheVariants.{Micro, Nano}
use Rattle.capt_c.specs.Answers.{format_of}
use Rattle.capt_c.specs.Flags.{cut_alone, cut_and_form, cut_and_ipv6, flags_in, has_bit, takes_each}
use Rattle.capt_c.specs.declared.flags.Flags.{Flags}
use Rattle.capt_c.specs.declared.job_options.Asked.{Asked}
use Rattle.capt_c.specs.declared.job_options.JobFlags.{JobFlags}
use Rattle.capt_c.specs.declared.job_options.JobOptions.{JobOptions}

-- the command of a number
abbrev pub task_of : ℕ → Option Task
task_of number =
    if number == 1 then Some tasks.List else
    if number == 2 then Some tasks.Blocks else
    if number == 3 then Some tasks.Info else
    if number == 4 then Some tasks.Report else
    if number == 5 then Some tasks.Convert else
    if number == 6 then Some tasks.Merge else
    if number == 7 then Some tasks.Join else
    if number == 8 then Some tasks.Diff else
    if number == 9 then Some tasks.Digest else
    if number == 10 then Some tasks.Check else None

-- the flags that a number has
abbrev pub job_flags_in : ℕ → JobFlags
job_flags_in number = record {
  common = flags_in number;
  json = has_bit number 16;
  class = has_bit number 32;
  shares = has_bit number 64;
  digests = has_bit number 128;
  ignored =
      record { time = has_bit number 256; link = has_bit number 512; original = has_bit number 1024 };
}

-- the form of times of a number, from 0 to 2
abbrev pub time_of : ℕ → TimeForm
time_of number = if number == 1 then Decimal else if number == 2 then Utc else Exact

-- the unit of time of a number, from 0 to 2: 0 asks for none
abbrev pub unit_of : ℕ → Option Fraction
unit_of number = if number == 1 then Some Micro else if number == 2 then Some Nano else None

-- how many bytes of a packet a number asks for: 0 asks for no number, and the greatest number for none
abbrev pub data_of : ℕ → Option ℕ
data_of number = if number == 0 then None else if number == 4294967295 then Some 0 else Some number

-- whether a number says how many bytes of a packet are shown
abbrev pub is_data : ℕ → Bool
is_data number = nat_le number 262144 || (number == 4294967295)

-- how many conversations a number asks for: 0 asks for all
abbrev pub top_of : ℕ → Option ℕ
top_of number = if number == 0 then None else Some number

-- what options ask for
abbrev pub asked_in : Task → JobOptions → Asked
asked_in task options = record {
  task = task;
  flags = job_flags_in options.flags;
  times = time_of options.times;
  most = data_of options.data;
  top = top_of options.top;
  unit = unit_of options.unit;
}

-- ---- what a command takes

-- the flags of other calls that a command takes
abbrev pub flags_of_task : Task → Flags
flags_of_task tasks.List = cut_and_ipv6
flags_of_task tasks.Report = cut_and_ipv6
flags_of_task tasks.Convert = cut_and_form
flags_of_task tasks.Merge = cut_and_form
flags_of_task tasks.Join = cut_and_form
flags_of_task _ = cut_alone

-- whether packets that are compared may differ in anything
abbrev pub ignores_any : Ignored → Bool
ignores_any ignored = ignored.time || ignored.link || ignored.original

-- whether a command takes those of its flags that only one command takes
abbrev pub takes_own : Task → JobFlags → Bool
takes_own tasks.List flags = not flags.shares && not flags.digests && not (ignores_any flags.ignored)
takes_own tasks.Merge flags = not flags.class && not flags.digests && not (ignores_any flags.ignored)
takes_own tasks.Check flags = not flags.class && not flags.shares && not (ignores_any flags.ignored)
takes_own tasks.Diff flags = not flags.class && not flags.shares && not flags.digests
takes_own _ flags = not flags.class && not flags.shares && not flags.digests && not (ignores_any flags.ignored)

-- whether a command takes its flags: each is one of its own, and it prints what they ask for
abbrev pub takes_flags : Asked → Bool
takes_flags asked =
    takes_each (flags_of_task asked.task) asked.flags.common && takes_own asked.task asked.flags
    && can_show asked.task asked.flags.json asked.most
    && can_read_ipv6 asked.task asked.flags.class asked.flags.common.ipv6

-- whether a command prints times
abbrev pub takes_times : Task → Bool
takes_times tasks.List = true
takes_times tasks.Info = true
takes_times tasks.Report = true
takes_times tasks.Diff = true
takes_times tasks.Check = true
takes_times _ = false

-- whether a command prints conversations
abbrev pub takes_top : Task → Bool
takes_top tasks.Report = true
takes_top _ = false

-- whether the options have numbers that a command takes: from 2048 on the flags have a bit that is no flag
abbrev pub has_numbers : Task → JobOptions → Bool
has_numbers task options =
    nat_lt options.flags 2048 && nat_le options.times 2 && nat_le options.unit 2 && is_data options.data
    && (takes_times task || (options.times == 0)) && (takes_top task || (options.top == 0))

-- whether a command takes that many files
abbrev pub takes_count : Task → ℕ → Bool
takes_count tasks.List count = count == 1
takes_count tasks.Blocks count = count == 1
takes_count tasks.Convert count = count == 1
takes_count tasks.Diff count = count == 2
takes_count _ count = nat_le 1 count && nat_le count 32

-- Whether a command can do what it is asked for with that many files: only a pcap file has a unit of time, and only a
-- pcapng file shares interfaces.
abbrev pub is_asked : Asked → ℕ → Bool
is_asked asked count =
    takes_count asked.task count && can_share asked.flags.shares (Some (format_of asked.flags.common.to_pcap))
    && can_have_unit asked.unit (Some (format_of asked.flags.common.to_pcap)) && takes_flags asked

-- what a command is asked for, if it takes that and that many files
abbrev pub asked_by : Option Task → JobOptions → ℕ → Option Asked
asked_by None options count = None
asked_by (Some task) options count =
    if has_numbers task options && is_asked (asked_in task options) count then Some (asked_in task options) else None

-- the command of that number, and what it is asked for
abbrev pub asked_of : ℕ → JobOptions → ℕ → Option Asked
asked_of command = asked_by (task_of command)
