-- What a packet is by itself, and why, as `list --class` prints it (RFC 791, 3.1 and 3.2; RFC 768; RFC 9293, 3.1).
use Rattle.std.specs.Prelude.{ℕ, List, [], ◌∷◌, Bool, true, false, codes, Option, Some, None}
use Rattle.std.specs.Option.{option_map_or}
use Rattle.cap_class.specs.Ipv6.{ipv6_read}
use Rattle.cap_class.specs.declared.classes.Class.{Class}
use Rattle.cap_class.specs.declared.classes.Class.TheVariants as class
use Rattle.cap_ip.specs.Header.{HeaderFields}
use Rattle.cap_ip.specs.Read.{Reading, found, bad, cut, read_of}
use Rattle.cap_ipv6.specs.Read as ipv6
use Rattle.cap_ip.specs.Reasons.{header_reason, reason_name, transport_reason}
use Rattle.cap_ip.specs.Transport.{transport_of}
use Rattle.cap_ip.specs.declared.headers.Fragment.{Fragment}
use Rattle.cap_ip.specs.declared.reasons.Reason.{Reason}
use Rattle.cap_ip.specs.declared.reasons.Reason.TheVariants.{LinkShort}
use Rattle.cap_ip.specs.declared.transports.Transport.{Transport}
use Rattle.cap_ip.specs.declared.transports.Transport.TheVariants as transport
use Rattle.cap_link.specs.Links.{network_of, is_captured_whole}
use Rattle.cap_link.specs.Seen.{Carried, ipv4, other_link, not_ipv4, short, cut as link_cut}
use Rattle.cap_print.specs.Facts.{Field, named, number, one, word}
use Rattle.cap_source.specs.declared.packets.Meta.{Meta}
use Rattle.cap_talks.specs.table.Conversations.{talk_key}
use Rattle.cap_talks.specs.table.CountedUnits.{unit_of}
use Rattle.cap_talks.specs.table.TalkLines.{talk_fields}
use Rattle.cap_talks.specs.table.Units.{ends_of}
use Rattle.cap_talks.specs.declared.table.descriptions.Description.{Description}
use Rattle.cap_talks.specs.declared.table.descriptions.Description.TheVariants as described
use Rattle.cap_talks.specs.declared.table.rows.TalkKey.{TalkKey}
use Rattle.cap_talks.specs.declared.table.units.Address.{Address}
use Rattle.cap_talks.specs.declared.table.units.Address.TheVariants.{Ipv4, Ipv6}
use Rattle.cap_talks.specs.declared.table.units.Endpoint.{Endpoint}

-- the conversation of a datagram of that protocol between two ends, its source and its destination
abbrev pub talk_between : ℕ → Endpoint × Endpoint → TalkKey
talk_between protocol ends = talk_key (unit_of protocol 1 0 None None ends)

-- a datagram without ends, for that reason: cut, if too little of its ports was captured, else bad
abbrev pub describe_endless : Transport → Reason → Description
describe_endless transport.Cut why = described.Cut why
describe_endless _ why = described.Bad why

-- a whole datagram of a protocol between two addresses, with the captured part of its data, which has that length: of
-- the conversation between its ends, or bad or cut
abbrev pub describe_between : ℕ → Address → Address → List ℕ → ℕ → Description
describe_between protocol source destination captured size =
    option_map_or (λ ends. described.Counted (talk_between protocol ends))
    (ends_of source destination (transport_of protocol captured size))
    (describe_endless (transport_of protocol captured size) (transport_reason protocol captured size))

abbrev pub describe_datagram : HeaderFields → List ℕ → Description
describe_datagram header captured =
    describe_between header.key.protocol (Ipv4 header.key.source) (Ipv4 header.key.destination) captured
    header.data_length

-- a packet whose header was found, with the captured part of its data: a whole datagram, or a fragment
abbrev pub describe_found : Option Fragment → HeaderFields → List ℕ → Description
describe_found None header captured = describe_datagram header captured
describe_found (Some it) header captured = described.Fragment header.key.identification it.start

-- an IPv4 packet, as its header was read; bad or cut for that reason
abbrev pub describe_read : Reading → Reason → Description
describe_read (found header captured) why = describe_found header.fragment header captured
describe_read bad why = described.Bad why
describe_read cut why = described.Cut why

-- what a frame carries
abbrev pub describe_carried : Carried → Bool → Description
describe_carried (ipv4 bytes) whole = describe_read (read_of bytes whole) (header_reason bytes whole)
describe_carried other_link whole = described.OtherLink
describe_carried not_ipv4 whole = described.NotIpv4
describe_carried short whole = described.Short
describe_carried link_cut whole = described.Cut LinkShort

-- what a packet is by itself, by what is known of it and its captured bytes
unfoldable pub describe_of : Meta → List ℕ → Description
describe_of meta frame =
    describe_carried (network_of meta.interface.link frame meta.original) (is_captured_whole frame meta.original)

-- ---- where IPv6 packets are read

-- an IPv6 packet (RFC 8200, 3)
abbrev pub describe_ipv6 : ipv6.Reading → Description
describe_ipv6 (ipv6.datagram header captured) =
    describe_between header.protocol (Ipv6 header.source) (Ipv6 header.destination) captured header.data_length
describe_ipv6 (ipv6.fragment f) = described.Fragment f.identification f.start
describe_ipv6 (ipv6.bad why) = described.Bad why
describe_ipv6 (ipv6.cut why) = described.Cut why

-- a packet that carries none
abbrev pub describe_unread : Description → Description
describe_unread described.NotIpv4 = described.NotIp
describe_unread described.OtherLink = described.OtherLink
describe_unread described.NotIp = described.NotIp
describe_unread described.Short = described.Short
describe_unread (described.Bad why) = described.Bad why
describe_unread (described.Cut why) = described.Cut why
describe_unread (described.Fragment identification offset) = described.Fragment identification offset
describe_unread (described.Counted key) = described.Counted key

abbrev pub describe_seen : Option ipv6.Reading → Description → Description
describe_seen None it = describe_unread it
describe_seen (Some r) it = describe_ipv6 r

-- what a packet is by itself, where IPv6 packets are read or not
unfoldable pub describe_for : Bool → Meta → List ℕ → Description
describe_for false meta frame = describe_of meta frame
describe_for true meta frame = describe_seen (ipv6_read meta frame) (describe_of meta frame)

-- ----

-- the class of such a packet in a report of it alone
abbrev pub described_class : Description → Class
described_class described.OtherLink = class.OtherLink
described_class described.NotIpv4 = class.NotIpv4
described_class described.NotIp = class.NotIpv4
described_class described.Short = class.Short
described_class (described.Bad why) = class.Bad
described_class (described.Cut why) = class.Cut
described_class (described.Fragment identification offset) = class.Unjoined
described_class (described.Counted key) = class.Counted

-- the word of a class
abbrev pub class_field : List ℕ → Field
class_field name = one (named (codes "class") (word (Some name)))

-- the word of a reason
abbrev pub reason_field : Reason → Field
reason_field why = one (named (codes "reason") (word (Some (reason_name why))))

-- the fields of what a packet is: its class; why, if it is bad or cut; of which datagram it is a fragment, and where
-- its data begins in that; to which conversation it belongs, as in that conversation's own line
abbrev pub description_fields : Description → List Field
description_fields described.OtherLink = class_field (codes "other-link") ∷ []
description_fields described.NotIpv4 = class_field (codes "not-ipv4") ∷ []
description_fields described.NotIp = class_field (codes "not-ip") ∷ []
description_fields described.Short = class_field (codes "short") ∷ []
description_fields (described.Bad why) = class_field (codes "bad") ∷ reason_field why ∷ []
description_fields (described.Cut why) = class_field (codes "cut") ∷ reason_field why ∷ []
description_fields (described.Fragment identification offset) =
    class_field (codes "fragment") ∷ one (named (codes "identification") (number identification))
    ∷ one (record { label = codes " fragment-offset "; key = codes "fragment_offset"; value = number offset }) ∷ []
description_fields (described.Counted key) = class_field (codes "counted") ∷ talk_fields key
