-- The packets of a run that were taken, and what each is by itself (RFC 791, 3.1 and 3.2). Lists have the latest first,
-- so the place of a packet in the run is the number of packets that follow it in the list.
use Rattle.std.specs.Prelude.{ℕ, List, [], ◌∷◌, Bool, length, Option, None, Some}
use Rattle.cap_ip.specs.Header.{HeaderFields}
use Rattle.cap_ip.specs.Read.{Reading, found, bad, cut, read_of}
use Rattle.cap_ip.specs.declared.headers.Fragment.{Fragment}
use Rattle.cap_join.specs.Fragments.{Piece, piece_of}
use Rattle.cap_join.specs.History.{Event, arrives, flushes}
use Rattle.cap_join.specs.declared.datagrams.Stamped.{Stamped}
use Rattle.cap_link.specs.Links.{network_of, is_captured_whole}
use Rattle.cap_link.specs.Seen.{Carried, ipv4, other_link, not_ipv4, short, cut as ends}
use Rattle.cap_source.specs.Times.{meta_time}
use Rattle.cap_source.specs.declared.packets.Meta.{Meta}
use Rattle.cap_time.specs.declared.stamps.Stamp.{Stamp}
use Rattle.cap_class.specs.declared.classes.Class.{Class}
use Rattle.cap_class.specs.declared.classes.Class.TheVariants as class

-- A packet that was taken: its clock, what is known of it, and its captured bytes.
pub record Taken : Type 0 where
  pub clock : Option Stamp
  pub meta : Meta
  pub frame : List ℕ

-- a packet with those
abbrev pub taken : Option Stamp → Meta → List ℕ → Taken
taken clock meta frame = record { clock = clock; meta = meta; frame = frame }

-- What a packet is by itself: one of a class, a whole datagram with the captured part of its data, or a fragment.
pub data Classification : Type 0 where
  plain : Class → Classification
  datagram : HeaderFields → List ℕ → Classification
  fragment : Piece → Classification

abbrev pub classify_by : Option Fragment → HeaderFields → List ℕ → Stamped → Classification
classify_by None header captured stamped = datagram header captured
classify_by (Some it) header captured stamped = fragment (piece_of header captured stamped)

abbrev pub classify_in : Reading → Stamped → Classification
classify_in (found header captured) stamped = classify_by header.fragment header captured stamped
classify_in bad stamped = plain class.Bad
classify_in cut stamped = plain class.Cut

abbrev pub classify_at : Carried → Bool → Stamped → Classification
classify_at (ipv4 bytes) whole stamped = classify_in (read_of bytes whole) stamped
classify_at other_link whole stamped = plain class.OtherLink
classify_at not_ipv4 whole stamped = plain class.NotIpv4
classify_at short whole stamped = plain class.Short
classify_at ends whole stamped = plain class.Cut

-- what is known of a packet's frame, that has a place in the run
abbrev pub stamped_of : ℕ → Meta → Stamped
stamped_of place meta = record { time = meta_time meta; place = place; original = meta.original }

unfoldable pub classify : ℕ → Taken → Classification
classify place x =
    classify_at (network_of x.meta.interface.link x.frame x.meta.original) (is_captured_whole x.frame x.meta.original)
    (stamped_of place x.meta)

-- what a packet of that clock does to the groups of fragments: one comes, or a whole datagram of a key
abbrev pub events_classified : Classification → Option Stamp → List Event → List Event
events_classified (plain c) clock events = events
events_classified (datagram header captured) clock events = flushes header.key ∷ events
events_classified (fragment p) clock events = arrives clock p ∷ events

unfoldable pub events_of : List Taken → List Event
events_of [] = []
events_of (x ∷ xs) = events_classified (classify (length xs) x) x.clock (events_of xs)
