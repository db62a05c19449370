-- The counted units of a run: whole datagrams, and groups of fragments that were completed, each at the place of the
-- packet that completes it. Lists of packets have the latest first, units stand in their order.
use Rattle.std.specs.Prelude.{ℕ, List, [], ◌∷◌, ◌++◌, Bool, true, false, ◌+◌, length, if◌then◌else◌, Option, Some, None}
use Rattle.std.specs.Prelude.{option_and_then}
use Rattle.std.specs.Option.{option_map, option_map_or}
use Rattle.cap_bytes.specs.declared.faults.Refusal.{Refusal}
use Rattle.cap_bytes.specs.declared.faults.Rule.TheVariants.{TalkLimit}
use Rattle.cap_source.specs.declared.packets.Meta.{Meta}
use Rattle.cap_class.specs.Ipv6.{ipv6_read}
use Rattle.cap_ip.specs.Header.{HeaderFields}
use Rattle.cap_ip.specs.Transport.{transport_of}
use Rattle.cap_ipv6.specs.Read.{Reading}
use Rattle.cap_join.specs.ByteMap.{joined_header, joined_data}
use Rattle.cap_join.specs.Fragments.{Piece}
use Rattle.cap_join.specs.Frames.{pieces_original, first_frame, last_frame}
use Rattle.cap_join.specs.History.{Event, joined_pieces, open_groups_after}
use Rattle.cap_join.specs.Joiners.{open_limit}
use Rattle.cap_join.specs.declared.datagrams.Stamped.{Stamped}
use Rattle.cap_talks.specs.table.Rows.{is_refused, talk_limit}
use Rattle.cap_talks.specs.table.Conversations.{talk_key, rows_of}
use Rattle.cap_talks.specs.table.Units.{ends_of}
use Rattle.cap_talks.specs.declared.table.units.Address.TheVariants.{Ipv4, Ipv6}
use Rattle.cap_talks.specs.declared.table.units.CountedUnit.{CountedUnit}
use Rattle.cap_talks.specs.declared.table.units.Endpoint.{Endpoint}
use Rattle.cap_talks.specs.declared.table.units.TimedFrame.{TimedFrame}
use Rattle.cap_time.specs.declared.stamps.Stamp.{Stamp}
use Rattle.cap_class.specs.Counting.{is_class}
use Rattle.cap_class.specs.Classes.{group_class, groups_of}
use Rattle.cap_join.specs.Completed.{if_complete}
use Rattle.cap_class.specs.Taken.{Taken, Classification, plain, datagram, fragment, classify, events_of, stamped_of}
use Rattle.cap_class.specs.declared.classes.Class.TheVariants as class

-- a frame, if it has a time
abbrev pub timed_frame : Option Stamped → Option TimedFrame
timed_frame None = None
timed_frame (Some frame) = option_map (λ time. record { time = time; place = frame.place }) frame.time

-- a unit between two ends, with the number of its frames, their bytes, and the first and the last of those that have a
-- time
abbrev pub unit_of : ℕ → ℕ → ℕ → Option TimedFrame → Option TimedFrame → Endpoint × Endpoint → CountedUnit
unit_of protocol frames bytes first last ends =
    record {
      protocol = protocol;
      source = ends.0;
      destination = ends.1;
      frames = frames;
      bytes = bytes;
      first = first;
      last = last;
    }

-- a whole datagram, which came in one frame
abbrev pub whole_unit : HeaderFields → List ℕ → Stamped → Option CountedUnit
whole_unit header captured stamped =
    option_map (unit_of header.key.protocol 1 stamped.original (timed_frame (Some stamped))
    (timed_frame (Some stamped)))
    (ends_of (Ipv4 header.key.source) (Ipv4 header.key.destination)
    (transport_of header.key.protocol captured header.data_length))

-- a joined datagram
unfoldable pub group_unit : List Piece → Option CountedUnit
group_unit pieces =
    option_and_then (λ h. option_map (unit_of h.key.protocol (length pieces) (pieces_original pieces)
    (timed_frame (first_frame pieces)) (timed_frame (last_frame pieces)))
    (ends_of (Ipv4 h.key.source) (Ipv4 h.key.destination) (transport_of h.key.protocol (joined_data pieces)
    (length (joined_data pieces)))))
    (joined_header pieces)

abbrev pub first_unit : List (List Piece) → Option CountedUnit
first_unit [] = None
first_unit (pieces ∷ groups) = group_unit pieces

-- the unit that a packet completes, which has that clock and comes after some events
abbrev pub unit_by : Classification → Stamped → Option Stamp → List Event → Option CountedUnit
unit_by (plain c) stamped clock events = None
unit_by (datagram header captured) stamped clock events = whole_unit header captured stamped
unit_by (fragment p) stamped clock events = first_unit
    (if_complete (joined_pieces clock p (open_groups_after open_limit events)))

unfoldable pub unit_at : List Taken → Taken → Option CountedUnit
unit_at xs x = unit_by (classify (length xs) x) (stamped_of (length xs) x.meta) x.clock (events_of xs)

-- a whole datagram of IPv6 (RFC 8200, 3), which came in one frame; no other IPv6 packet is a unit
abbrev pub ipv6_unit : Reading → Stamped → Option CountedUnit
ipv6_unit (Reading.datagram header captured) stamped =
    option_map (unit_of header.protocol 1 stamped.original (timed_frame (Some stamped)) (timed_frame (Some stamped)))
    (ends_of (Ipv6 header.source) (Ipv6 header.destination)
    (transport_of header.protocol captured header.data_length))
ipv6_unit other stamped = None

-- the unit of a packet by its IPv6 packet, if one is read, and else that which it completes as any other
abbrev pub unit_seen : Option Reading → Stamped → Option CountedUnit → Option CountedUnit
unit_seen None stamped unit = unit
unit_seen (Some r) stamped unit = ipv6_unit r stamped

-- the unit that a packet completes, in a report that reads IPv6 packets or not
unfoldable pub unit_for : Bool → List Taken → Taken → Option CountedUnit
unit_for false xs x = unit_at xs x
unit_for true xs x = unit_seen (ipv6_read x.meta x.frame) (stamped_of (length xs) x.meta) (unit_at xs x)

abbrev pub listed : {A : Type 0} → Option A → List A
listed None = []
listed (Some it) = it ∷ []

unfoldable pub units_for : Bool → List Taken → List CountedUnit
units_for reads [] = []
units_for reads (x ∷ xs) = units_for reads xs ++ listed (unit_for reads xs x)

-- the same of a report that doesn't read IPv6 packets
abbrev pub counted_units : List Taken → List CountedUnit
counted_units xs = units_for false xs

-- how many datagrams were joined that count
abbrev pub counted_in : List (List Piece) → ℕ
counted_in [] = 0
counted_in (pieces ∷ groups) = (if is_class class.Counted (group_class pieces) then 1 else 0) + counted_in groups

abbrev pub joined_in : List Taken → ℕ
joined_in xs = counted_in (groups_of xs)

-- how many groups were given up
abbrev pub given_up_in : List Taken → ℕ
given_up_in xs = (open_groups_after open_limit (events_of xs)).given_up

-- a unit, if there is one, is of a new conversation, and 1,048,576 conversations stand of those before it
abbrev pub is_limit_by : List CountedUnit → Option CountedUnit → Bool
is_limit_by units unit = option_map_or (λ unit. is_refused talk_limit (rows_of units) (talk_key unit)) unit false

-- after some packets, the next one completes such a unit
abbrev pub is_limit_for : Bool → List Taken → Taken → Bool
is_limit_for reads xs x = is_limit_by (units_for reads xs) (unit_for reads xs x)

-- the same of a report that doesn't read IPv6 packets
abbrev pub is_limit_at : List Taken → Taken → Bool
is_limit_at xs x = is_limit_for false xs x

-- the refusal of such a packet: rule 16, talk-limit
abbrev pub limit_refusal : Meta → Refusal
limit_refusal meta = record { file = meta.file; offset = meta.offset; rule = TalkLimit }
