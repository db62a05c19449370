-- What a command does with captures in memory that is asked for what options ask for.
use Rattle.std.specs.Prelude.{ℕ, List, [], Bool, false, map, Some, Result}
use Rattle.cap_bytes.specs.declared.faults.Fault.{Fault}
use Rattle.cap_commands.specs.Jobs.{DoesTask, JobShows, form_by, shown_by, tail_of}
use Rattle.cap_commands.specs.RunText.{output_format}
use Rattle.cap_commands.specs.declared.jobs.Finding.{Finding}
use Rattle.cap_commands.specs.declared.list.ListOptions.{ListOptions}
use Rattle.cap_print.specs.declared.forms.Form.{Form}
use Rattle.capt_c.specs.Answers.{format_of, order_of}
use Rattle.capt_c.specs.JobRests.{JobRest, answer_by_end, found_by_end}
use Rattle.capt_c.specs.declared.job_options.Asked.{Asked}

-- the form that is asked for
abbrev pub form_asked : Asked → Form
form_asked asked = form_by asked.flags.json asked.times

-- what is shown: at most so many bytes of a packet and so many conversations, and IPv6 packets or not
abbrev pub shows_asked : Asked → JobShows
shows_asked asked = record {
  bytes = shown_by (form_asked asked) asked.most;
  top = asked.top;
  ipv6 = asked.flags.common.ipv6;
}

-- the lines of `list` that are asked for
abbrev pub list_options : Asked → ListOptions
list_options asked = record {
  form = form_asked asked;
  most = shown_by (form_asked asked) asked.most;
  class = asked.flags.class;
  ipv6 = asked.flags.common.ipv6;
}

-- no read of a file in memory fails
abbrev pub never_failing : List (List ℕ) → List Bool
never_failing files = map (λ _. false) files

-- What the command writes, finds and returns over files of those bytes, as the program does that is asked for the same.
abbrev pub DoesAsked : Asked → List (List ℕ) → Finding → List ℕ → Result Unit Fault → List ℕ → Type 0
DoesAsked asked files =
    DoesTask asked.task asked.flags.ignored (tail_of asked.flags.common.allow_cut) (form_asked asked)
    (shows_asked asked) asked.flags.class (order_of asked.flags.common.big)
    (Some (output_format (format_of asked.flags.common.to_pcap) asked.unit)) asked.flags.shares asked.flags.digests
    (never_failing files) files

-- All of a command's text is to come, and how it ends.
abbrev pub BeginsJob : Asked → List (List ℕ) → JobRest → Type 0
BeginsJob asked files rest =
    DoesAsked asked files (found_by_end rest.end) [] (answer_by_end rest.end) rest.text
