-- The class of each packet of a run (RFC 791, 3.2; RFC 768; RFC 9293, 3.1). Lists have the latest first.
use Rattle.std.specs.Prelude.{ℕ, List, [], ◌∷◌, None, Bool, ◌==◌, length}
use Rattle.std.specs.List.{find, list_any}
use Rattle.std.specs.Option.{option_map_or}
use Rattle.cap_ip.specs.Transport.{transport_of}
use Rattle.cap_ip.specs.declared.transports.Transport.{Transport}
use Rattle.cap_ip.specs.declared.transports.Transport.TheVariants as transport
use Rattle.cap_join.specs.ByteMap.{joined_header, joined_data}
use Rattle.cap_join.specs.Fragments.{Piece}
use Rattle.cap_join.specs.Joiners.{open_limit}
use Rattle.cap_join.specs.declared.datagrams.Datagram.{Datagram}
use Rattle.cap_join.specs.Completed.{completed_of}
use Rattle.cap_source.specs.declared.packets.Meta.{Meta}
use Rattle.cap_class.specs.Taken.{Taken, Classification, plain, datagram, fragment, classify, taken, events_of}
use Rattle.cap_class.specs.declared.classes.Class.{Class}
use Rattle.cap_class.specs.declared.classes.Class.TheVariants as class

-- a datagram's class, by what its data says of its ports
abbrev pub class_of : Transport → Class
class_of (transport.Ports source destination) = class.Counted
class_of transport.NoPorts = class.Counted
class_of transport.Bad = class.Bad
class_of transport.Cut = class.Cut

-- what the data of a joined datagram says of its ports: its header is that of the latest fragment that begins at 0
abbrev pub joined_transport : List Piece → Transport
joined_transport pieces =
    option_map_or (λ h. transport_of h.key.protocol (joined_data pieces) (length (joined_data pieces)))
    (joined_header pieces) transport.Bad

-- the class of a joined datagram
unfoldable pub datagram_class : Datagram → Class
datagram_class d = class_of (transport_of d.header.key.protocol d.payload.items (length d.payload.items))

unfoldable pub group_class : List Piece → Class
group_class pieces = class_of (joined_transport pieces)

-- a fragment of that place is among some
abbrev pub has_place : ℕ → List Piece → Bool
has_place place pieces = list_any (λ p. p.stamped.place == place) pieces

-- A fragment is unjoined, unless it is in a group that was completed: then it has the class of the joined datagram.
abbrev pub class_in : List (List Piece) → ℕ → Class
class_in groups place = option_map_or group_class (find (has_place place) groups) class.Unjoined

abbrev pub class_by : List (List Piece) → Classification → Class
class_by groups (plain c) = c
class_by groups (datagram header captured) = class_of (transport_of header.key.protocol captured header.data_length)
class_by groups (fragment p) = class_in groups p.stamped.place

abbrev pub classes_in : List (List Piece) → List Taken → List Class
classes_in groups [] = []
classes_in groups (x ∷ xs) = class_by groups (classify (length xs) x) ∷ classes_in groups xs

-- the class of a packet in a run of it alone, where no group is completed
unfoldable pub lone_class : Meta → List ℕ → Class
lone_class meta frame = class_by [] (classify 0 (taken None meta frame))

-- the groups that were completed among some packets
abbrev pub groups_of : List Taken → List (List Piece)
groups_of xs = completed_of open_limit (events_of xs)

-- the classes of some packets, one of each
unfoldable pub classes : List Taken → List Class
classes xs = classes_in (groups_of xs) xs
