-- What `capt convert` writes.
use Rattle.std.specs.Prelude.{ℕ, List, Option}
use Rattle.cap_bytes.specs.declared.faults.Refusal.{Refusal}
use Rattle.cap_bytes.specs.declared.faults.Tail.{Tail}
use Rattle.cap_bytes.specs.declared.numbers.Order.{Order}
use Rattle.cap_source.specs.Items.{file_first, file_items}
use Rattle.cap_commands.specs.declared.counting.OutputFormat.{OutputFormat}
use Rattle.cap_commands.specs.declared.counting.OutputFormat.TheVariants.{Pcap, Pcapng}
use Rattle.cap_write.specs.Pcap.{first_in_unit, pcap_bytes, pcap_refusal}
use Rattle.cap_write.specs.Texts.{pcapng_bytes, pcapng_refusal}

-- what is written in that format and order of a file with those bytes
abbrev pub convert_text : OutputFormat → Order → Tail → List ℕ → List ℕ
convert_text (Pcap unit) order tail bytes =
    pcap_bytes order (first_in_unit unit (file_first tail 1 bytes)) (file_items tail 1 bytes)
convert_text Pcapng order tail bytes = pcapng_bytes order 1 (file_first tail 1 bytes) (file_items tail 1 bytes)

-- the refusal that is then returned, if there is one
abbrev pub convert_refusal : OutputFormat → Tail → List ℕ → Option Refusal
convert_refusal (Pcap unit) tail bytes =
    pcap_refusal 1 (first_in_unit unit (file_first tail 1 bytes)) (file_items tail 1 bytes)
convert_refusal Pcapng tail bytes = pcapng_refusal 1 (file_first tail 1 bytes) (file_items tail 1 bytes)
