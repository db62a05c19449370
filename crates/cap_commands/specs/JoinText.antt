-- What `capt join` writes.
use Rattle.std.specs.Prelude.{ℕ, List, Option}
use Rattle.cap_bytes.specs.declared.faults.Refusal.{Refusal}
use Rattle.cap_bytes.specs.declared.faults.Tail.{Tail}
use Rattle.cap_bytes.specs.declared.numbers.Order.{Order}
use Rattle.cap_merge.specs.Files.{clocked_run}
use Rattle.cap_commands.specs.declared.counting.OutputFormat.{OutputFormat}
use Rattle.cap_commands.specs.declared.counting.OutputFormat.TheVariants.{Pcapng}
use Rattle.cap_commands.specs.RunText.{datagrams_refusal, datagrams_text}

-- what is written in that format of the datagrams of files of those bytes, and the refusal that is then returned, if
-- there is one
abbrev pub join_text_in : OutputFormat → Order → Tail → List (List ℕ) → List ℕ
join_text_in format order tail files = datagrams_text format order (clocked_run tail files)

abbrev pub join_refusal_in : OutputFormat → Tail → List (List ℕ) → Option Refusal
join_refusal_in format tail files = datagrams_refusal format (clocked_run tail files)

-- the same in pcapng
abbrev pub join_text : Order → Tail → List (List ℕ) → List ℕ
join_text order tail files = join_text_in Pcapng order tail files

abbrev pub join_refusal : Tail → List (List ℕ) → Option Refusal
join_refusal tail files = join_refusal_in Pcapng tail files
