-- What is written of a run in either format: its packets, or its datagrams.
use Rattle.std.specs.Prelude.{ℕ, List, Option, Bool, true, false}
use Rattle.cap_bytes.specs.declared.faults.Refusal.{Refusal}
use Rattle.cap_bytes.specs.declared.numbers.Order.{Order}
use Rattle.cap_merge.specs.Run.{Clocked}
use Rattle.cap_source.specs.Feed.{Item}
use Rattle.cap_time.specs.declared.stamps.Unit.{Unit as Fraction}
use Rattle.cap_bytes.specs.declared.formats.Format.{Format}
use Rattle.cap_bytes.specs.declared.formats.Format.TheVariants.{Pcap, Pcapng}
use Rattle.cap_write.specs.Joined.{joined_bytes, joined_refusal}
use Rattle.cap_write.specs.PcapRun.{joined_pcap_bytes, joined_pcap_refusal, run_bytes, run_refusal}
use Rattle.cap_write.specs.Texts.{merged_bytes, merged_refusal, sharing_bytes, sharing_refusal}
use Rattle.cap_commands.specs.declared.counting.OutputFormat.{OutputFormat}
use Rattle.cap_commands.specs.declared.counting.OutputFormat.TheVariants as outputs
use Rattle.cap_commands.specs.declared.counting.RunForm.{RunForm}
use Rattle.cap_commands.specs.declared.counting.RunForm.TheVariants as forms

-- the format in which a capture is written, by its name and the unit of time that is asked for, if one is: in pcapng
-- each interface keeps its own
abbrev pub output_format : Format → Option Fraction → OutputFormat
output_format Pcap unit = outputs.Pcap unit
output_format Pcapng unit = outputs.Pcapng

-- the form in which packets are written, by whether equal interfaces are shared, and the format
abbrev pub run_form : Bool → OutputFormat → RunForm
run_form shares (outputs.Pcap unit) = forms.Pcap unit
run_form false outputs.Pcapng = forms.Pcapng
run_form true outputs.Pcapng = forms.SharedPcapng

-- what is written of its packets in that form and order, and the refusal that is then returned, if there is one
abbrev pub packets_text : RunForm → Order → List Item → List ℕ
packets_text (forms.Pcap unit) order items = run_bytes unit order items
packets_text forms.Pcapng order items = merged_bytes order items
packets_text forms.SharedPcapng order items = sharing_bytes order items

abbrev pub packets_refusal : RunForm → List Item → Option Refusal
packets_refusal (forms.Pcap unit) items = run_refusal unit items
packets_refusal forms.Pcapng items = merged_refusal items
packets_refusal forms.SharedPcapng items = sharing_refusal items

-- the same of its datagrams
abbrev pub datagrams_text : OutputFormat → Order → List (Clocked Item) → List ℕ
datagrams_text (outputs.Pcap unit) order run = joined_pcap_bytes unit order run
datagrams_text outputs.Pcapng order run = joined_bytes order run

abbrev pub datagrams_refusal : OutputFormat → List (Clocked Item) → Option Refusal
datagrams_refusal (outputs.Pcap unit) run = joined_pcap_refusal unit run
datagrams_refusal outputs.Pcapng run = joined_refusal run
