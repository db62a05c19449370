-- The unit of a joined datagram, whether a unit's conversation is one too many, and the rows with what a unit adds.
use Rattle.std.specs.Prelude.{List, Bool, false, length, Option}
use Rattle.std.specs.Option.{option_map, option_map_or}
use Rattle.cap_ip.specs.Transport.{transport_of}
use Rattle.cap_join.specs.declared.datagrams.Datagram.{Datagram}
use Rattle.indexmap.specs.IndexMap.{insert_entry}
use Rattle.cap_talks.specs.table.Rows.{is_refused, row_at, talk_limit, with_delta}
use Rattle.cap_talks.specs.table.Conversations.{Conversation, same_talk, talk_key}
use Rattle.cap_talks.specs.declared.table.rows.RowDelta.{RowDelta}
use Rattle.cap_talks.specs.declared.table.rows.TalkKey.{TalkKey}
use Rattle.cap_talks.specs.table.Units.{ends_of}
use Rattle.cap_talks.specs.declared.table.units.Address.TheVariants.{Ipv4}
use Rattle.cap_talks.specs.declared.table.units.CountedUnit.{CountedUnit}
use Rattle.cap_talks.specs.table.CountedUnits.{timed_frame, unit_of}

-- the unit that a joined datagram is
unfoldable pub datagram_unit : Datagram → Option CountedUnit
datagram_unit d =
    option_map (unit_of d.header.key.protocol d.frames d.bytes (timed_frame d.first) (timed_frame d.last))
    (ends_of (Ipv4 d.header.key.source) (Ipv4 d.header.key.destination)
    (transport_of d.header.key.protocol d.payload.items (length d.payload.items)))

-- its conversation is one too many
abbrev pub is_over : List Conversation → Option CountedUnit → Bool
is_over rows unit = option_map_or (λ u. is_refused talk_limit rows (talk_key u)) unit false

-- the rows with what a unit adds: to the row of its conversation where it stands, or after the others
abbrev pub with_talk_delta : List Conversation → TalkKey → RowDelta → List Conversation
with_talk_delta rows key delta = insert_entry same_talk rows key (with_delta (row_at key rows) delta)
