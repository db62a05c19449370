-- A reader of either format as a file to come.
use Rattle.std.specs.Prelude.{◌≡◌, ◌<◌, ℕ, Bool, true, false, IsTrue, List, [], Option, None, Result, Ok, Err, is_some}
use Rattle.std.specs.Prelude.{⊤}
use Rattle.cap_bytes.specs.inner.Window.{WindowState, WindowShows, WindowBreaks, coming}
use Rattle.cap_bytes.specs.declared.faults.Fault.{Fault}
use Rattle.cap_bytes.specs.declared.faults.Fault.TheVariants.{Refused, Read, Write, Memory}
use Rattle.cap_bytes.specs.inner.Reader.{opened_reader}
use Rattle.cap_source.specs.Items.{is_pcapng}
use Rattle.cap_bytes.specs.declared.formats.Format.{Format}
use Rattle.cap_bytes.specs.declared.formats.Format.TheVariants.{Pcap, Pcapng}
use Rattle.cap_source.specs.Items.{SectionProgress, ending_with}
use Rattle.cap_source.specs.inner.FileState.{FileState, FileFails, FileWaits, unread_state, pcap_state, pcapng_state}
use Rattle.cap_source.specs.inner.SectionState.{has_room}
use Rattle.cap_source.specs.declared.section_states.SectionState.{SectionState}
use Rattle.cap_source.specs.declared.readers.Reader.{Reader}
use Rattle.cap_source.specs.declared.readers.Reader.TheVariants as readers

-- the reader that is on its way has nothing to come
abbrev pub moved_state : SectionProgress → FileState
moved_state progress =
    record {
      file = 0;
      told = true;
      items = [];
      ending = ending_with progress None;
      first = None;
      noted = None;
      offset = 0;
      read = 0;
      most = None;
      lent = None;
      stops = false;
      broken = None;
      failed = false;
      can_fail = false;
      held = 0;
      interfaces = 0;
      counted = 0;
    }

abbrev pub reader_file_state : {R : Type 0} → Reader R → SectionProgress → FileState
reader_file_state (readers.Unread window tail) progress = unread_state window tail progress
reader_file_state (readers.Pcap reader) progress = pcap_state reader progress
reader_file_state (readers.Pcapng reader) progress = pcapng_state reader progress
reader_file_state readers.Moved progress = moved_state progress

-- whether the bytes are those of a file of that format
abbrev pub has_format : Format → List ℕ → Type 0
has_format Pcap bytes = is_pcapng bytes ≡ false
has_format Pcapng bytes = is_pcapng bytes ≡ true

-- what a look at the first four bytes returns
abbrev pub LooksAtWindow : WindowState → Result Format Fault → WindowState → Type 0
LooksAtWindow old (Ok format) new = WindowShows old new × (IsTrue old.told → has_format format (coming old))
LooksAtWindow old (Err (Read file offset)) new = WindowBreaks old file offset new × (new.offset ≡ old.offset)
LooksAtWindow old (Err Memory) new = WindowShows old new × (old.room < 4)
LooksAtWindow old (Err Write) new = ⊥
LooksAtWindow old (Err (Refused refusal)) new = ⊥

-- the reader of that format over a window
abbrev pub reader_by : {R : Type 0} → Reader R → Format → Reader R
reader_by (readers.Unread window tail) Pcap = readers.Pcap (opened_reader window tail)
reader_by (readers.Unread window tail) Pcapng = readers.Pcapng (opened_reader window tail)
reader_by (readers.Pcap reader) format = readers.Pcap reader
reader_by (readers.Pcapng reader) format = readers.Pcapng reader
reader_by readers.Moved format = readers.Moved

-- a reader of one of the formats
abbrev pub IsReadyReader : {R : Type 0} → Reader R → Type 0
IsReadyReader (readers.Unread window tail) = ⊥
IsReadyReader (readers.Pcap reader) = ⊤
IsReadyReader (readers.Pcapng reader) = ⊤
IsReadyReader readers.Moved = ⊥

-- whether it has come to an end
abbrev pub is_stopped : {R : Type 0} → Reader R → Bool
is_stopped (readers.Unread window tail) = false
is_stopped (readers.Pcap reader) = is_some reader.stop
is_stopped (readers.Pcapng reader) = is_some reader.stop
is_stopped readers.Moved = false

-- whether there is room for an interface in a pcapng file of which a read has failed
abbrev pub reader_room : {R : Type 0} → Reader R → SectionState → Bool
reader_room (readers.Unread window tail) reached = true
reader_room (readers.Pcap reader) reached = true
reader_room (readers.Pcapng reader) reached = has_room reader.broken reached
reader_room readers.Moved reached = true

-- what making the reader returns, of the file before and after that
abbrev pub OpensReader : {A : Type 0} → FileState → Result A Fault → FileState → Type 0
OpensReader old (Ok _) new = FileWaits old new
OpensReader old (Err (Read file offset)) new = FileFails old file offset new
OpensReader old (Err Memory) new = FileWaits old new × (old.broken ≡ None)
OpensReader old (Err Write) new = ⊥
OpensReader old (Err (Refused refusal)) new = ⊥

-- a reader that isn't on its way
abbrev pub is_there : {R : Type 0} → Reader R → Bool
is_there (readers.Unread window tail) = true
is_there (readers.Pcap reader) = true
is_there (readers.Pcapng reader) = true
is_there readers.Moved = false

-- what it lends of the record or block that was given last
abbrev pub lent_of : {R : Type 0} → Reader R → Option (List ℕ)
lent_of (readers.Unread window tail) = None
lent_of (readers.Pcap reader) = reader.lent
lent_of (readers.Pcapng reader) = reader.lent
lent_of readers.Moved = None
