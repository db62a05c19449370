-- What `capt merge` writes.
use Rattle.std.specs.Prelude.{ℕ, List, Option}
use Rattle.cap_bytes.specs.declared.faults.Refusal.{Refusal}
use Rattle.cap_bytes.specs.declared.faults.Tail.{Tail}
use Rattle.cap_bytes.specs.declared.numbers.Order.{Order}
use Rattle.cap_merge.specs.Files.{run_of_files}
use Rattle.cap_commands.specs.RunText.{packets_refusal, packets_text}
use Rattle.cap_commands.specs.declared.counting.RunForm.{RunForm}
use Rattle.cap_commands.specs.declared.counting.RunForm.TheVariants.{Pcapng}

-- what is written in that form of files of those bytes in the order of time, and the refusal that is then returned,
-- if there is one
abbrev pub merge_text_in : RunForm → Order → Tail → List (List ℕ) → List ℕ
merge_text_in form order tail files = packets_text form order (run_of_files tail files)

abbrev pub merge_refusal_in : RunForm → Tail → List (List ℕ) → Option Refusal
merge_refusal_in form tail files = packets_refusal form (run_of_files tail files)

-- the same in pcapng, in which each file has interfaces of its own
abbrev pub merge_text : Order → Tail → List (List ℕ) → List ℕ
merge_text order tail files = merge_text_in Pcapng order tail files

abbrev pub merge_refusal : Tail → List (List ℕ) → Option Refusal
merge_refusal tail files = merge_refusal_in Pcapng tail files
