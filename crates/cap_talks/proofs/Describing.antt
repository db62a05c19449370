-- The class of a described packet is its class in a report of it alone.
use Rattle.std.proofs.Common.{◌≡◌, ℕ, List, [], Bool, Option, Some, None, true, false, true≢false, refl, sym, ap, ◌∙◌}
use Rattle.std.proofs.Common.{arith}
use Rattle.cap_class.specs.Taken.{classify, classify_at, classify_by, classify_in, stamped_of}
use Rattle.cap_ip.specs.Header.{HeaderFields}
use Rattle.cap_ip.specs.Read.{Reading, found, bad, cut, read_of}
use Rattle.cap_ip.specs.Reasons.{header_reason, transport_reason}
use Rattle.cap_ip.specs.Transport.{transport_of}
use Rattle.cap_ip.specs.declared.headers.Fragment.{Fragment}
use Rattle.cap_ip.specs.declared.reasons.Reason.{Reason}
use Rattle.cap_ip.specs.declared.transports.Transport.{Transport}
use Rattle.cap_ip.specs.declared.transports.Transport.TheVariants as transport
use Rattle.std.specs.Option.{option_map_or}
use Rattle.cap_join.specs.declared.datagrams.Stamped.{Stamped}
use Rattle.cap_link.specs.Links.{network_of, is_captured_whole}
use Rattle.cap_link.specs.Seen.{Carried, ipv4, other_link, not_ipv4, short, cut as link_cut}
use Rattle.cap_source.specs.declared.packets.Meta.{Meta}
use Rattle.cap_class.specs.Classes.{class_by, class_of, lone_class}
use Rattle.cap_talks.specs.table.Descriptions.{describe_carried, describe_endless, describe_found}
use Rattle.cap_talks.specs.table.Descriptions.{describe_for, describe_ipv6, describe_of, describe_read}
use Rattle.cap_talks.specs.table.Descriptions.{describe_seen, describe_unread, described_class, talk_between}
use Rattle.cap_talks.specs.declared.table.descriptions.Description.{Description}
use Rattle.cap_class.specs.Ipv6.{class_seen, ipv6_class, ipv6_read, lone_class_for}
use Rattle.cap_ipv6.specs.Read as ipv6
use Rattle.cap_talks.specs.table.Units.{ends_of}
use Rattle.cap_talks.specs.declared.table.units.Address.{Address}
use Rattle.cap_talks.specs.declared.table.units.Address.TheVariants.{Ipv4, Ipv6}
use Rattle.cap_talks.specs.declared.table.descriptions.Description.TheVariants as described

-- a whole datagram, by what its data says of its ports
seen-class : (seen : Transport) (protocol : ℕ) (source destination : Address) (why : Reason)
    → described_class (option_map_or (λ ends. described.Counted (talk_between protocol ends))
    (ends_of source destination seen) (describe_endless seen why)) ≡ class_of seen
seen-class (transport.Ports from to) protocol source destination why = refl
seen-class transport.NoPorts protocol source destination why = refl
seen-class transport.Bad protocol source destination why = refl
seen-class transport.Cut protocol source destination why = refl

found-class : (it : Option Fragment) (header : HeaderFields) (captured : List ℕ) (stamped : Stamped)
    → described_class (describe_found it header captured) ≡ class_by [] (classify_by it header captured stamped)
found-class None header captured stamped =
    seen-class (transport_of header.key.protocol captured header.data_length) header.key.protocol
    (Ipv4 header.key.source)
    (Ipv4 header.key.destination) (transport_reason header.key.protocol captured header.data_length)
found-class (Some it) header captured stamped = refl

read-class : (reading : Reading) (why : Reason) (stamped : Stamped)
    → described_class (describe_read reading why) ≡ class_by [] (classify_in reading stamped)
read-class (found header captured) why stamped = found-class header.fragment header captured stamped
read-class bad why stamped = refl
read-class cut why stamped = refl

carried-class : (carried : Carried) (whole : Bool) (stamped : Stamped)
    → described_class (describe_carried carried whole) ≡ class_by [] (classify_at carried whole stamped)
carried-class (ipv4 bytes) whole stamped = read-class (read_of bytes whole) (header_reason bytes whole) stamped
carried-class other_link whole stamped = refl
carried-class not_ipv4 whole stamped = refl
carried-class short whole stamped = refl
carried-class link_cut whole stamped = refl

unread-class : (it : Description) → described_class (describe_unread it) ≡ described_class it
unread-class it = grind arith

ipv6-described : (r : ipv6.Reading) → described_class (describe_ipv6 r) ≡ ipv6_class r
ipv6-described (ipv6.datagram header captured) =
    seen-class (transport_of header.protocol captured header.data_length) header.protocol (Ipv6 header.source)
    (Ipv6 header.destination) (transport_reason header.protocol captured header.data_length)
ipv6-described (ipv6.fragment f) = refl
ipv6-described (ipv6.bad why) = refl
ipv6-described (ipv6.cut why) = refl

pub described-lone : (meta : Meta) (frame : List ℕ) → described_class (describe_of meta frame) ≡ lone_class meta frame
unfolding describe_of lone_class classify
described-lone meta frame =
    carried-class (network_of meta.interface.link frame meta.original) (is_captured_whole frame meta.original)
    (stamped_of 0 meta)

pub described-for : (reads : Bool) (meta : Meta) (frame : List ℕ)
    → described_class (describe_for reads meta frame) ≡ lone_class_for reads meta frame
unfolding describe_for lone_class_for
described-for false meta frame = described-lone meta frame
described-for true meta frame = by (ipv6_read meta frame)
  where
    by : (o : Option ipv6.Reading)
        → described_class (describe_seen o (describe_of meta frame)) ≡ class_seen o (lone_class meta frame)
    by None = unread-class (describe_of meta frame) ∙ described-lone meta frame
    by (Some r) = ipv6-described r

-- what is answered where IPv6 packets are read
pub unread-for : (reads : Bool) (meta : Meta) (frame : List ℕ) (it answer : Description) → reads ≡ true
    → None ≡ ipv6_read meta frame → it ≡ describe_of meta frame → answer ≡ describe_unread it
    → answer ≡ describe_for reads meta frame
unfolding describe_for
unread-for false meta frame it answer on none is same = absurd (true≢false (sym on))
unread-for true meta frame it answer on none is same =
    same ∙ ap describe_unread is ∙ ap (λ o. describe_seen o (describe_of meta frame)) none

pub read-for : (reads : Bool) (meta : Meta) (frame : List ℕ) (r : ipv6.Reading) (answer : Description) → reads ≡ true
    → Some r ≡ ipv6_read meta frame → answer ≡ describe_ipv6 r → answer ≡ describe_for reads meta frame
unfolding describe_for
read-for false meta frame r answer on some same = absurd (true≢false (sym on))
read-for true meta frame r answer on some same = same ∙ ap (λ o. describe_seen o (describe_of meta frame)) some
