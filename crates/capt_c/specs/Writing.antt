-- A capture file that a caller writes packet by packet.
use Rattle.std.specs.Prelude.{◌≡◌, ◌++◌, ◌⊎◌, ℕ, List, [], ◌∷◌, length, map, Option, Some, None, Result, Ok, Err}
use Rattle.cap_bytes.specs.declared.faults.Fault.{Fault}
use Rattle.cap_bytes.specs.declared.faults.Fault.TheVariants.{Refused, Read, Write, Memory}
use Rattle.cap_bytes.specs.declared.formats.Format.{Format}
use Rattle.cap_bytes.specs.declared.formats.Format.TheVariants.{Pcap, Pcapng}
use Rattle.cap_bytes.specs.declared.numbers.Order.{Order}
use Rattle.cap_source.specs.Feed.{Item, packet}
use Rattle.cap_source.specs.declared.packets.Meta.{Meta}
use Rattle.cap_write.specs.Numbering.{Origins, description_of, shared}
use Rattle.cap_write.specs.PcapRun.{run_bytes}
use Rattle.cap_write.specs.Texts.{sharing_bytes}
use Rattle.cap_write.specs.inner.Forms.{FormState, form_after, form_behind, form_stop, form_text, headed, numbered}
use Rattle.capt_c.specs.Answers.{nowhere, place_of_result, status_of_result, status_of_unit}
use Rattle.capt_c.specs.Texts.{Shown}
use Rattle.capt_c.specs.Reading.{Misused}
use Rattle.capt_c.specs.Told.{TellsPacket}
use Rattle.capt_c.specs.declared.answers.CPlace.{CPlace}
use Rattle.capt_c.specs.declared.handles.HandleValue.{HandleValue}
use Rattle.capt_c.specs.declared.handles.HandleValue.TheVariants as helds
use Rattle.capt_c.specs.declared.interfaces.Interfaces.{Interfaces}
use Rattle.capt_c.specs.declared.texts.Text.{Text}
use Rattle.capt_c.specs.declared.packets.CPacket.{CPacket}
use Rattle.capt_c.specs.declared.packet_writers.PacketWriter.{PacketWriter}
use Rattle.capt_c.specs.declared.packet_writers.WriterForm.{WriterForm}
use Rattle.capt_c.specs.declared.packet_writers.WriterForm.TheVariants as writers

-- ---- a file that is being written

-- the interfaces that a pcapng file has described
abbrev pub shared_in : Interfaces → Origins
shared_in interfaces = shared (map description_of interfaces.list.items)

-- What it has described: the interfaces of a pcapng file, of which equal ones are one; or that of the header of a pcap
-- file.
abbrev pub described : WriterForm → FormState
described (writers.Pcapng interfaces) = numbered (shared_in interfaces)
described (writers.Pcap first) = headed None first

-- What was written of it and not taken, in which byte order, and what it has described.
pub record WriterState : Type 0 where
  pub bytes : List ℕ
  pub order : Order
  pub form : FormState

abbrev pub state_of : PacketWriter → WriterState
state_of writer = record { bytes = writer.bytes.items; order = writer.order; form = described writer.form }

-- what a file has described before its first packet
abbrev pub fresh_form : Format → FormState
fresh_form Pcap = headed None None
fresh_form Pcapng = numbered (shared [])

-- The file of some packets, in the form that a merge writes: a pcap file, whose header is that of the first packet, or
-- a pcapng file, in which equal interfaces are one.
abbrev pub file_of : Format → Order → List Item → List ℕ
file_of Pcap order items = run_bytes None order items
file_of Pcapng order items = sharing_bytes order items

-- A writer stands for the file of those packets: what was taken of it and what it holds are its bytes.
pub record WriterStands (format : Format) (writer : WriterState) (taken : List ℕ) (items : List Item) : Type 0 where
  pub bytes : taken ++ writer.bytes ≡ file_of format writer.order items
  pub form : writer.form ≡ form_behind (fresh_form format) items
  pub whole : form_stop (fresh_form format) items ≡ None

-- the writer after a packet
abbrev pub with_packet : WriterState → Meta → List ℕ → WriterState
with_packet writer meta frame =
    record {
      bytes = writer.bytes ++ form_text writer.order writer.form (packet meta frame ∷ []);
      order = writer.order;
      form = form_after writer.form meta;
    }

-- The packet is the next of the file; or the writer is as it was: the packet is refused, or no memory was found for it.
abbrev pub PutsPacket : WriterState → Meta → List ℕ → Result Unit Fault → WriterState → Type 0
PutsPacket old meta frame (Ok u) new =
    (form_stop old.form (packet meta frame ∷ []) ≡ None) × (new ≡ with_packet old meta frame)
PutsPacket old meta frame (Err (Refused refusal)) new =
    (form_stop old.form (packet meta frame ∷ []) ≡ Some refusal) × (new ≡ old)
PutsPacket old meta frame (Err (Read file offset)) new = ⊥
PutsPacket old meta frame (Err Write) new = ⊥
PutsPacket old meta frame (Err Memory) new = new ≡ old

-- If it is the next, the file is that of one packet more.
abbrev pub GrowsBy : WriterState → Item → Result Unit Fault → WriterState → Type 0
GrowsBy old item (Ok u) new =
    (format : Format) (taken : List ℕ) (items : List Item) → WriterStands format old taken items
    → WriterStands format new taken (items ++ item ∷ [])
GrowsBy old item (Err fault) new = new ≡ old

-- the writer after what it holds was taken
abbrev pub emptied : WriterState → WriterState
emptied writer = record { bytes = []; order = writer.order; form = writer.form }

-- ---- what the calls return and leave

-- A file without packets is open; or no memory was found.
abbrev pub OpensWriter : Format → Order → ℕ → Option HandleValue → Type 0
OpensWriter format order status None = status ≡ 5
OpensWriter format order status (Some (helds.Capture c)) = ⊥
OpensWriter format order status (Some (helds.Fed f)) = ⊥
OpensWriter format order status (Some (helds.Table t)) = ⊥
OpensWriter format order status (Some (helds.Text text)) = ⊥
OpensWriter format order status (Some (helds.Job job)) = ⊥
OpensWriter format order status (Some (helds.Writer w)) =
    (status ≡ 0) × WriterStands format (state_of w) [] [] × (w.order ≡ order)

-- The packet that the numbers tell was put into a file.
abbrev pub PutsTold : PacketWriter → Meta → List ℕ → ℕ → CPlace → Option HandleValue → Type 0
PutsTold old meta frame status place new =
    (answer : Result Unit Fault) × (later : PacketWriter) × (status ≡ status_of_result status_of_unit answer)
    × (place ≡ place_of_result answer) × (new ≡ Some (helds.Writer later))
    × PutsPacket (state_of old) meta frame answer (state_of later)
    × GrowsBy (state_of old) (packet meta frame) answer (state_of later)

-- What a call that puts a packet returns and leaves. If the numbers tell none, the call is misused. `from` is the
-- caller's place before it.
abbrev pub PutsHeld : Option HandleValue → CPacket → List ℕ → CPlace → ℕ → CPlace → Option HandleValue → Type 0
PutsHeld None p frame from status place new = Misused status None new from place
PutsHeld (Some (helds.Capture c)) p frame from status place new =
    Misused status (Some (helds.Capture c)) new from place
PutsHeld (Some (helds.Fed f)) p frame from status place new =
    Misused status (Some (helds.Fed f)) new from place
PutsHeld (Some (helds.Table t)) p frame from status place new =
    Misused status (Some (helds.Table t)) new from place
PutsHeld (Some (helds.Text text)) p frame from status place new =
    Misused status (Some (helds.Text text)) new from place
PutsHeld (Some (helds.Job job)) p frame from status place new =
    Misused status (Some (helds.Job job)) new from place
PutsHeld (Some (helds.Writer w)) p frame from status place new =
    ((meta : Meta) × TellsPacket p (length frame) meta × PutsTold w meta frame status place new)
    ⊎ (((meta : Meta) → TellsPacket p (length frame) meta → ⊥) × Misused status (Some (helds.Writer w)) new from place)

-- What was written was taken, or no memory was found for it: then the writer is as it was.
abbrev pub TakenBy : ℕ → WriterState → WriterState → Type 0
TakenBy status old new =
    (status ≡ 0 → new ≡ emptied old) × (status ≡ 5 → new ≡ old)

-- What a call that takes what was written returns and leaves; `was` is the caller's text before it.
abbrev pub TakesHeld : Option HandleValue → Text → ℕ → Text → Option HandleValue → Type 0
TakesHeld None was status text new = Misused status None new was text
TakesHeld (Some (helds.Capture c)) was status text new = Misused status (Some (helds.Capture c)) new was text
TakesHeld (Some (helds.Fed f)) was status text new = Misused status (Some (helds.Fed f)) new was text
TakesHeld (Some (helds.Table t)) was status text new = Misused status (Some (helds.Table t)) new was text
TakesHeld (Some (helds.Text t)) was status text new = Misused status (Some (helds.Text t)) new was text
TakesHeld (Some (helds.Job job)) was status text new = Misused status (Some (helds.Job job)) new was text
TakesHeld (Some (helds.Writer w)) was status text new =
    Shown w.bytes.items (Ok tt) status nowhere text text.handle.kept.value
    × ((later : PacketWriter) × (new ≡ Some (helds.Writer later)) × TakenBy status (state_of w) (state_of later))
