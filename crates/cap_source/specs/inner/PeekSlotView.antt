-- What the fields of a `PeekSlot` say comes next of a file.
use Rattle.std.specs.Prelude.{◌≡◌, ⊤, ℕ, Bool, true, false, Option, Some, None}
use Rattle.cap_bytes.specs.declared.formats.Format.TheVariants.{Pcap}
use Rattle.cap_pcap.specs.declared.headers.PcapHeader.{PcapHeader}
use Rattle.cap_pcap.specs.declared.records.Record.{Record}
use Rattle.cap_source.specs.Items.{interface_of}
use Rattle.cap_source.specs.declared.packets.Meta.{Meta}
use Rattle.cap_source.specs.declared.readers.Peeked.{Peeked}
use Rattle.cap_source.specs.declared.readers.Peeked.TheVariants as peeks
use Rattle.cap_source.specs.declared.readers.Reader.{Reader}
use Rattle.cap_source.specs.declared.readers.Reader.TheVariants as readers

-- by its mark: a packet of its own fields, or what is kept of a refusal or the end
abbrev pub peeked_by : Option Bool → ℕ → Meta → Option Peeked → Option Peeked
peeked_by None place meta last = None
peeked_by (Some true) place meta last = Some (peeks.Packet meta place)
peeked_by (Some false) place meta last = last

-- a refusal or the end
abbrev pub IsLast : Option Peeked → Type 0
IsLast None = ⊥
IsLast (Some (peeks.Packet meta place)) = ⊥
IsLast (Some (peeks.Refused refusal ending)) = ⊤
IsLast (Some (peeks.End ending)) = ⊤

-- If no packet comes next, what does is kept.
abbrev pub IsKeptPeek : Option Bool → Option Peeked → Type 0
IsKeptPeek None last = ⊤
IsKeptPeek (Some true) last = ⊤
IsKeptPeek (Some false) last = IsLast last

-- What is kept: what comes next, and the packet that did last.
pub record KeptPeek : Type 0 where
  pub next : Option Peeked
  pub meta : Meta

-- that packet, with another record
abbrev pub with_record : Meta → Record → Meta
with_record meta r =
    record meta { offset = r.offset; units = Some r.units; captured = r.captured; original = r.original }

-- a packet with what all packets of a pcap file have in common, once its header is known
abbrev pub with_header : ℕ → Option PcapHeader → Meta → Meta
with_header file None meta = meta
with_header file (Some header) meta =
    record meta { file = file; format = Pcap; skipped = 0; instance = 0; interface = interface_of header }

-- The packet that is kept has that.
abbrev pub IsPrepared : ℕ → Option PcapHeader → Meta → Type 0
IsPrepared file header meta = with_header file header meta ≡ meta

abbrev pub with_reader : {R : Type 0} → Reader R → Meta → Meta
with_reader (readers.Unread window tail) meta = meta
with_reader (readers.Pcap reader) meta = with_header reader.file reader.known meta
with_reader (readers.Pcapng reader) meta = meta
with_reader readers.Moved meta = meta
