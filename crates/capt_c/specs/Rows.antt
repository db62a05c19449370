-- What a table has counted, in numbers.
use Rattle.std.specs.Prelude.{◌≡◌, ◌+◌, ◌*◌, ◌^◌, ◌+ℤ◌, ◌*ℤ◌, ℕ, pos, Bool, false, List, ◌++◌, replicate, length}
use Rattle.std.specs.Prelude.{Option, Some, None, is_some}
use Rattle.std.specs.Option.{option_map_or}
use Rattle.cap_bytes.specs.Number.{bytes_of}
use Rattle.cap_bytes.specs.declared.formats.Format.{Format}
use Rattle.cap_bytes.specs.declared.formats.Format.TheVariants.{Pcap, Pcapng}
use Rattle.cap_bytes.specs.declared.numbers.Order.TheVariants.{Big}
use Rattle.cap_class.specs.Taken.{Taken}
use Rattle.cap_source.specs.declared.feeds.Ending.{Ending}
use Rattle.cap_talks.specs.inner.table.Stepping.{TableState, TableStands, endings_so_far}
use Rattle.cap_talks.specs.inner.table.TableView.{table_of}
use Rattle.cap_talks.specs.table.Conversations.{Conversation}
use Rattle.cap_talks.specs.table.TableCounts.{file_counted, talk_at, talks_for, totals_for}
use Rattle.cap_talks.specs.table.Units.{version_of}
use Rattle.cap_talks.specs.declared.counts.counts.Counts.{Counts}
use Rattle.cap_talks.specs.declared.counts.files.Counted.{Counted}
use Rattle.cap_talks.specs.declared.table.tables.TableTotals.{TableTotals}
use Rattle.cap_talks.specs.declared.table.units.Address.{Address}
use Rattle.cap_talks.specs.declared.table.units.Address.TheVariants.{Ipv4, Ipv6}
use Rattle.cap_talks.specs.declared.table.units.Endpoint.{Endpoint}
use Rattle.cap_time.specs.Stamp.{denominator_of, numerator_of, seconds_of}
use Rattle.cap_time.specs.declared.stamps.Stamp.{Stamp}
use Rattle.capt_c.specs.declared.handles.HandleValue.{HandleValue}
use Rattle.capt_c.specs.declared.handles.HandleValue.TheVariants as helds
use Rattle.capt_c.specs.declared.rows.CEndpoint.{CEndpoint}
use Rattle.capt_c.specs.declared.rows.CFile.{CFile}
use Rattle.capt_c.specs.declared.rows.CTalk.{CTalk}
use Rattle.capt_c.specs.declared.rows.CTotals.{CTotals}
use Rattle.capt_c.specs.declared.rows.CTraffic.{CTraffic}
use Rattle.capt_c.specs.declared.times.CTime.{CTime}

-- a time in four numbers; none has a denominator of 0
abbrev pub ShowsStamp : Option Stamp → CTime → Type 0
ShowsStamp None t = t.denominator ≡ 0
ShowsStamp (Some stamp) t =
    (t.seconds +ℤ t.carry *ℤ pos (2 ^ 64) ≡ seconds_of stamp) × (t.numerator ≡ numerator_of stamp)
    × (t.denominator ≡ denominator_of stamp)

-- the 16 bytes of an address, the highest first: those of an IPv4 address are its four, and twelve zeros
abbrev pub address_bytes : Address → List ℕ
address_bytes (Ipv4 address) = bytes_of Big 4 address ++ replicate 12 0
address_bytes (Ipv6 address) = bytes_of Big 16 address

-- an end of a conversation; the port of a protocol without ports is 0
pub record ShowsEndpoint (at : Endpoint) (c : CEndpoint) : Type 0 where
  pub address : c.address ≡ address_bytes at.address
  pub version : c.version ≡ version_of at.address
  pub port : c.port ≡ option_map_or (λ port. port) at.port 0
  pub has_port : c.has_port ≡ is_some at.port

-- some packets and the sum of their bytes, in two numbers of 64 bits
pub record ShowsTraffic (packets bytes : ℕ) (c : CTraffic) : Type 0 where
  pub packets_are : c.packets ≡ packets
  pub bytes_are : c.bytes + c.carry * 2 ^ 64 ≡ bytes

-- a conversation
pub record ShowsTalk (talk : Conversation) (c : CTalk) : Type 0 where
  pub a : ShowsEndpoint talk.0.lesser c.a
  pub b : ShowsEndpoint talk.0.greater c.b
  pub protocol : c.protocol ≡ talk.0.protocol
  pub forward : ShowsTraffic talk.1.forward_frames talk.1.forward_bytes c.forward
  pub backward : ShowsTraffic talk.1.backward_frames talk.1.backward_bytes c.backward
  pub first : ShowsStamp talk.1.first c.first
  pub last : ShowsStamp talk.1.last c.last

-- The format of a file and how many of its blocks were skipped, as the file's line has them: of the whole file, once it
-- has ended, and before that of the packets that were taken.
abbrev pub told_format : Counts → Option Ending → Option Format
told_format counts None = counts.format
told_format counts (Some ending) = Some ending.format

abbrev pub told_skipped : Counts → Option Ending → ℕ
told_skipped counts None = counts.skipped
told_skipped counts (Some ending) = ending.skipped

abbrev pub told_cut : Option Ending → Bool
told_cut None = false
told_cut (Some ending) = is_some ending.cut

-- the number of a format; of one that isn't known, 0
abbrev pub format_number : Option Format → ℕ
format_number None = 0
format_number (Some Pcap) = 1
format_number (Some Pcapng) = 2

-- what is counted of a file
pub record ShowsFile (it : Counted) (c : CFile) : Type 0 where
  pub all : ShowsTraffic it.counts.packets it.counts.bytes c.all
  pub truncated : c.truncated ≡ it.counts.truncated
  pub skipped : c.skipped ≡ told_skipped it.counts it.ending
  pub first : ShowsStamp it.counts.first c.first
  pub last : ShowsStamp it.counts.last c.last
  pub format : c.format ≡ format_number (told_format it.counts it.ending)
  pub was_cut : c.was_cut ≡ told_cut it.ending

-- What is counted of all packets, and how many conversations and files there are.
pub record TableNumbers : Type 0 where
  pub totals : TableTotals
  pub talks : ℕ
  pub files : ℕ

pub record ShowsTotals (it : TableNumbers) (c : CTotals) : Type 0 where
  pub all : ShowsTraffic it.totals.packets it.totals.bytes c.all
  pub truncated : c.truncated ≡ it.totals.truncated
  pub other_link : c.other_link ≡ it.totals.classes.other_link
  pub not_ip : c.not_ip ≡ it.totals.classes.not_ipv4
  pub too_short : c.too_short ≡ it.totals.classes.short
  pub cut : c.cut ≡ it.totals.classes.cut
  pub bad : c.bad ≡ it.totals.classes.bad
  pub unjoined : c.unjoined ≡ it.totals.classes.unjoined
  pub counted : c.counted ≡ it.totals.classes.counted
  pub joined : c.joined ≡ it.totals.joined
  pub given_up : c.given_up ≡ it.totals.given_up
  pub talks : c.talks ≡ it.talks
  pub files : c.files ≡ it.files

-- What a table tells, of the packets that it has taken: the conversation of a line, what is counted of a file, and what
-- is counted of all.
abbrev pub talk_told : ℕ → TableState → List Taken → Option Conversation
talk_told place t xs = talk_at t.tally.reads xs place

abbrev pub file_told : ℕ → TableState → List Taken → Option Counted
file_told number t xs = file_counted (length t.totals.files) (endings_so_far t) xs number

abbrev pub totals_told : TableState → List Taken → Option TableNumbers
totals_told t xs = Some (record {
  totals = totals_for t.tally.reads xs;
  talks = length (talks_for t.tally.reads xs);
  files = length t.totals.files;
})

-- A call writes what there is into the caller's object, and returns 0; if there is nothing, it is misused.
abbrev pub WritesTold : {A C : Type 0} → (A → C → Type 0) → Option A → C → ℕ → C → Type 0
WritesTold Shows None was status now = (status ≡ 6) × (now ≡ was)
WritesTold Shows (Some it) was status now = (status ≡ 0) × Shows it now

-- the same of the table that a handle holds
abbrev pub TellsTable : {A C : Type 0} → (TableState → List Taken → Option A) → (A → C → Type 0) → Option HandleValue
    → C → ℕ → C → Type 0
TellsTable told Shows None was status now = (status ≡ 6) × (now ≡ was)
TellsTable told Shows (Some (helds.Capture c)) was status now = (status ≡ 6) × (now ≡ was)
TellsTable told Shows (Some (helds.Fed f)) was status now = (status ≡ 6) × (now ≡ was)
TellsTable told Shows (Some (helds.Text text)) was status now = (status ≡ 6) × (now ≡ was)
TellsTable told Shows (Some (helds.Job job)) was status now = (status ≡ 6) × (now ≡ was)
TellsTable told Shows (Some (helds.Writer w)) was status now = (status ≡ 6) × (now ≡ was)
TellsTable told Shows (Some (helds.Table t)) was status now =
    (xs : List Taken) → TableStands (table_of t.value) xs
    → WritesTold Shows (told (table_of t.value) xs) was status now
