-- What is written of packets in one of the formats, after what was written before.
use Rattle.std.specs.Prelude.{◌≡◌, ◌≤◌, ⊤, ℕ, List, [], ◌∷◌, Option, Some, None, Result, Ok, Err}
use Rattle.cap_bytes.specs.declared.faults.Fault.{Fault}
use Rattle.cap_bytes.specs.declared.faults.Fault.TheVariants.{Refused}
use Rattle.cap_bytes.specs.declared.faults.Refusal.{Refusal}
use Rattle.cap_bytes.specs.declared.numbers.Order.{Order}
use Rattle.cap_source.specs.Feed.{Item, packet, refused}
use Rattle.cap_source.specs.declared.packets.Meta.{Meta}
use Rattle.cap_time.specs.declared.resolutions.Interface.{Interface}
use Rattle.cap_time.specs.declared.stamps.Unit.{Unit as Fraction}
use Rattle.cap_write.specs.Numbering.{Origins, count_of, refusal_in, with_origin}
use Rattle.cap_write.specs.Pcap.{bare_refusal, in_unit, records_bytes, records_refusal}
use Rattle.cap_write.specs.PcapRun.{run_bytes, run_refusal}
use Rattle.cap_write.specs.Texts.{text_behind}
use Rattle.cap_write.specs.inner.Interfaces.{origins_of}
use Rattle.cap_write.specs.declared.forms.WrittenForm.{WrittenForm}
use Rattle.cap_write.specs.declared.forms.WrittenForm.TheVariants.{Pcap, Pcapng}

-- A file that is being written: the origins of the interfaces that a pcapng file has described, or the unit that is
-- asked for of a pcap file, and the interface of the header that it has.
pub data FormState : Type 0 where
  numbered : Origins → FormState
  headed : Option Fraction → Option Interface → FormState

abbrev pub form_state : WrittenForm → FormState
form_state (Pcapng origins) = numbered (origins_of origins)
form_state (Pcap unit first) = headed unit first

-- what is written of some items, and the refusal after them
abbrev pub form_text : Order → FormState → List Item → List ℕ
form_text order (numbered origins) items = text_behind order origins items
form_text order (headed unit None) items = run_bytes unit order items
form_text order (headed unit (Some first)) items = records_bytes order first items

abbrev pub form_refusal : FormState → List Item → Option Refusal
form_refusal (numbered origins) items = refusal_in origins items
form_refusal (headed unit None) items = run_refusal unit items
form_refusal (headed unit (Some first)) items = records_refusal first items

-- the refusal of one of the items, if more may come
abbrev pub form_stop : FormState → List Item → Option Refusal
form_stop (numbered origins) items = refusal_in origins items
form_stop (headed unit None) [] = None
form_stop (headed unit None) (item ∷ items) = run_refusal unit (item ∷ items)
form_stop (headed unit (Some first)) items = records_refusal first items

-- the file after a packet, and after some items
abbrev pub form_after : FormState → Meta → FormState
form_after (numbered origins) meta = numbered (with_origin origins meta)
form_after (headed unit None) meta = headed unit (Some (in_unit unit meta.interface))
form_after (headed unit (Some first)) meta = headed unit (Some first)

unfoldable pub form_behind : FormState → List Item → FormState
form_behind form [] = form
form_behind form (packet meta frame ∷ items) = form_behind (form_after form meta) items
form_behind form (refused refusal ∷ items) = form

-- A pcapng file describes at most 1,024 interfaces.
abbrev pub IsFew : FormState → Type 0
IsFew (numbered origins) = count_of origins ≤ 1024
IsFew (headed unit first) = ⊤

-- What is returned at the end: a pcap file without a header is refused.
abbrev pub EndsForm : FormState → Result (Unit {0}) Fault → Type 0
EndsForm (numbered origins) result = result ≡ Ok tt
EndsForm (headed unit None) result = result ≡ Err (Refused (bare_refusal 1 []))
EndsForm (headed unit (Some first)) result = result ≡ Ok tt
