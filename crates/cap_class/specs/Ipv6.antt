-- The IPv6 packets of a run (RFC 8200, 3), and their classes in a report that reads them.
use Rattle.std.specs.Prelude.{ℕ, List, [], ◌∷◌, Bool, true, false, ⊤, Option, Some, None, length, option_map}
use Rattle.std.specs.Prelude.{if◌then◌else◌}
use Rattle.cap_ip.specs.Transport.{transport_of}
use Rattle.cap_ipv6.specs.Read.{Reading, read_of}
use Rattle.cap_link.specs.Ipv6.{ipv6_of}
use Rattle.cap_link.specs.Links.{is_captured_whole}
use Rattle.cap_source.specs.declared.packets.Meta.{Meta}
use Rattle.cap_join.specs.Fragments.{Piece}
use Rattle.cap_class.specs.Classes.{class_by, class_of, classes, groups_of, lone_class}
use Rattle.cap_class.specs.Taken.{Classification, Taken, plain, datagram, fragment, classify}
use Rattle.cap_class.specs.declared.classes.Class.{Class}
use Rattle.cap_class.specs.declared.classes.Class.TheVariants as class

-- what the IPv6 packet of a frame is by itself; none if the frame carries no such packet
unfoldable pub ipv6_read : Meta → List ℕ → Option Reading
ipv6_read meta frame =
    option_map (λ bytes. read_of bytes (is_captured_whole frame meta.original)) (ipv6_of meta.interface.link frame)

-- The class of an IPv6 packet. Its fragments aren't joined, so each of them is unjoined; of a whole datagram it is that
-- of its ports, as of IPv4.
abbrev pub ipv6_class : Reading → Class
ipv6_class (Reading.datagram header captured) =
    class_of (transport_of header.protocol captured header.data_length)
ipv6_class (Reading.fragment f) = class.Unjoined
ipv6_class (Reading.bad why) = class.Bad
ipv6_class (Reading.cut why) = class.Cut

-- the IPv6 packet of a packet, in a report that reads those or not
unfoldable pub read_in : Bool → Taken → Option Reading
read_in reads x = if reads then ipv6_read x.meta x.frame else None

-- the class of a packet by its IPv6 packet, if one is read, and else that which it has as any other
abbrev pub class_seen : Option Reading → Class → Class
class_seen None c = c
class_seen (Some r) c = ipv6_class r

abbrev pub classes_seen : List (List Piece) → List Taken → List Class
classes_seen groups [] = []
classes_seen groups (x ∷ xs) =
    class_seen (ipv6_read x.meta x.frame) (class_by groups (classify (length xs) x)) ∷ classes_seen groups xs

-- the classes of some packets, one of each, in a report that reads IPv6 packets or not
unfoldable pub report_classes : Bool → List Taken → List Class
report_classes false xs = classes xs
report_classes true xs = classes_seen (groups_of xs) xs

-- the class of a packet in a report of it alone that reads IPv6 packets or not
unfoldable pub lone_class_for : Bool → Meta → List ℕ → Class
lone_class_for false meta frame = lone_class meta frame
lone_class_for true meta frame = class_seen (ipv6_read meta frame) (lone_class meta frame)

-- neither a datagram of IPv4 nor a fragment of one, of a network or a link type that isn't looked into for IPv4
abbrev pub IsPlain : Classification → Type 0
IsPlain (plain class.OtherLink) = ⊤
IsPlain (plain class.NotIpv4) = ⊤
IsPlain (plain class.Short) = ⊥
IsPlain (plain class.Cut) = ⊥
IsPlain (plain class.Bad) = ⊥
IsPlain (plain class.Unjoined) = ⊥
IsPlain (plain class.Counted) = ⊥
IsPlain (datagram header captured) = ⊥
IsPlain (fragment p) = ⊥
