-- What is written of a file in either format, by its first interface and its items.
use Rattle.std.specs.Prelude.{ℕ, List, Option}
use Rattle.cap_bytes.specs.declared.faults.Refusal.{Refusal}
use Rattle.cap_bytes.specs.declared.numbers.Order.{Order}
use Rattle.cap_source.specs.Feed.{Item}
use Rattle.cap_commands.specs.declared.counting.OutputFormat.{OutputFormat}
use Rattle.cap_commands.specs.declared.counting.OutputFormat.TheVariants.{Pcap, Pcapng}
use Rattle.cap_time.specs.declared.resolutions.Interface.{Interface}
use Rattle.cap_write.specs.Pcap.{first_in_unit, pcap_bytes, pcap_refusal}
use Rattle.cap_write.specs.Texts.{pcapng_bytes, pcapng_refusal}

-- what is written in that format and order of the file of that number
abbrev pub written_file_text : OutputFormat → Order → ℕ → Option Interface → List Item → List ℕ
written_file_text (Pcap unit) order file first items = pcap_bytes order (first_in_unit unit first) items
written_file_text Pcapng order file first items = pcapng_bytes order file first items

-- the refusal that is then returned, if there is one
abbrev pub file_refusal : OutputFormat → ℕ → Option Interface → List Item → Option Refusal
file_refusal (Pcap unit) file first items = pcap_refusal file (first_in_unit unit first) items
file_refusal Pcapng file first items = pcapng_refusal file first items
