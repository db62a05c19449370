-- The datagrams of a run of packets, each written as one packet that begins with its header (RFC 791, 3.1 and 3.2).
use Rattle.std.specs.Prelude.{ℕ, ◌+◌, ◌==◌, ◌&&◌, List, [], ◌∷◌, ◌++◌, length, Bool, true, false, Option, Some, None}
use Rattle.std.specs.Prelude.{is_some, option_and_then, if◌then◌else◌}
use Rattle.cap_bytes.specs.declared.faults.Refusal.{Refusal}
use Rattle.cap_bytes.specs.declared.numbers.Order.{Order}
use Rattle.cap_class.specs.Taken.{Classification, plain, datagram, fragment, classify, taken, events_classified}
use Rattle.cap_ip.specs.Header.{HeaderFields}
use Rattle.cap_ip.specs.Transport.{transport_of}
use Rattle.cap_ip.specs.Written.{ipv4_header_bytes}
use Rattle.cap_ip.specs.declared.transports.Transport.{Transport}
use Rattle.cap_ip.specs.declared.transports.Transport.TheVariants as transports
use Rattle.cap_join.specs.ByteMap.{completes, joined_header, joined_data}
use Rattle.cap_join.specs.Fragments.{Piece}
use Rattle.cap_join.specs.History.{Event, joined_pieces, open_groups_after}
use Rattle.cap_join.specs.Joiners.{open_limit}
use Rattle.cap_merge.specs.Run.{Clocked}
use Rattle.cap_source.specs.Feed.{Item, packet, refused}
use Rattle.cap_source.specs.declared.packets.Meta.{Meta}
use Rattle.cap_time.specs.declared.resolutions.Interface.{Interface}
use Rattle.cap_time.specs.declared.stamps.Stamp.{Stamp}
use Rattle.cap_write.specs.Texts.{merged_bytes, merged_refusal}

-- A datagram with all of its data.
pub record Complete : Type 0 where
  pub header : HeaderFields
  pub bytes : List ℕ

-- a datagram as one packet
abbrev pub datagram_bytes : Complete → List ℕ
datagram_bytes d = ipv4_header_bytes d.header (length d.bytes) ++ d.bytes

-- its data has the form of its protocol, as far as its ports
abbrev pub has_form : Transport → Bool
has_form (transports.Ports source destination) = true
has_form transports.NoPorts = true
has_form transports.Bad = false
has_form transports.Cut = false

-- A datagram of which that many bytes of data were captured from its front, if they are all of a length and have the
-- form of its protocol.
unfoldable pub complete_of : HeaderFields → List ℕ → ℕ → Option Complete
complete_of header captured size =
    if (length captured == size) && has_form (transport_of header.key.protocol captured size)
    then Some (record { header = header; bytes = captured }) else None

-- the datagram that some fragments make, once they complete it: the header is that of the latest that begins at 0
unfoldable pub joined_of : List Piece → Option Complete
joined_of pieces =
    if completes pieces then option_and_then (λ h. complete_of h (joined_data pieces) (length (joined_data pieces)))
    (joined_header pieces) else None

-- The datagram that a packet completes, by what it is by itself, if `group` has the fragments of a fragment's group:
-- the packet is a whole datagram, or the last fragment that was missing.
abbrev pub datagram_of : Classification → (Piece → List Piece) → Option Complete
datagram_of (plain c) group = None
datagram_of (datagram header captured) group = complete_of header captured header.data_length
datagram_of (fragment p) group = joined_of (group p)

-- a fragment's group at a clock, after some events at a joiner
abbrev pub group_after : Option Stamp → List Event → Piece → List Piece
group_after clock events p = joined_pieces clock p (open_groups_after open_limit events)

-- the datagram that a packet completes, which has that place in the run and that clock
unfoldable pub completed : ℕ → List Event → Option Stamp → Meta → List ℕ → Option Complete
completed place events clock meta frame =
    datagram_of (classify place (taken clock meta frame)) (group_after clock events)

-- and the events after it, the latest first
unfoldable pub events_after : ℕ → List Event → Option Stamp → Meta → List ℕ → List Event
events_after place events clock meta frame = events_classified (classify place (taken clock meta frame)) clock events

-- the interface of a written datagram: no link header (LINKTYPE_RAW, 101) and no limit; times as at the packet's own
abbrev pub raw_interface : Interface → Interface
raw_interface interface = record {
  link = 101;
  snaplen = 0;
  resolution = interface.resolution;
  offset =
      interface.offset;
}

-- what is known of a datagram as one packet of that many bytes: it has the place, the time and the interface's number
-- of
-- the packet that completed it
abbrev pub datagram_meta : Meta → ℕ → Meta
datagram_meta meta size = record meta { interface = raw_interface meta.interface; captured = size; original = size }

abbrev pub datagram_item : Meta → Complete → Item
datagram_item meta d = packet (datagram_meta meta (length (datagram_bytes d))) (datagram_bytes d)

abbrev pub datagram_items : Meta → Option Complete → List Item
datagram_items meta None = []
datagram_items meta (Some d) = datagram_item meta d ∷ []

-- What is to be written of a packet: the datagram that it completes, if it does. A packet without a time stands for
-- itself, so that its writing is refused.
abbrev pub items_with_datagram : Meta → List ℕ → Option Complete → List Item
items_with_datagram meta frame d = if is_some meta.units then datagram_items meta d else packet meta frame ∷ []

unfoldable pub items_of_packet : ℕ → List Event → Option Stamp → Meta → List ℕ → List Item
items_of_packet place events clock meta frame = items_with_datagram meta frame (completed place events clock meta frame)

-- what is to be written of an item of that clock, and the events after it
abbrev pub items_here : ℕ → List Event → Option Stamp → Item → List Item
items_here place events clock (packet meta frame) = items_of_packet place events clock meta frame
items_here place events clock (refused refusal) = refused refusal ∷ []

abbrev pub events_here : ℕ → List Event → Option Stamp → Item → List Event
events_here place events clock (packet meta frame) = events_after place events clock meta frame
events_here place events clock (refused refusal) = events

-- What is to be written of a run, whose first packet has that place in it and comes after those events.
unfoldable pub joined_items : ℕ → List Event → List (Clocked Item) → List Item
joined_items place events [] = []
joined_items place events (x ∷ xs) =
    items_here place events x.clock x.item ++ joined_items (place + 1) (events_here place events x.clock x.item) xs

-- What is written for a run: as for a merged list, over its datagrams.
abbrev pub joined_bytes : Order → List (Clocked Item) → List ℕ
joined_bytes order run = merged_bytes order (joined_items 0 [] run)

abbrev pub joined_refusal : List (Clocked Item) → Option Refusal
joined_refusal run = merged_refusal (joined_items 0 [] run)
