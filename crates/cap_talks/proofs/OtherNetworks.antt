-- How many packets there are of each network other than IPv4.
use Rattle.std.proofs.Common.{◌≡◌, ◌≤◌, ℕ, ◌+◌, Bool, false, List, [], ◌∷◌, length, Option, Some, None, refl}
use Rattle.std.proofs.Common.{sym, ap, ◌∙◌, arith}
use Rattle.std.specs.Prelude.{is_some, if◌then◌else◌}
use Rattle.std.specs.Option.{option_map_or}
use Rattle.cap_ip.specs.Header.{HeaderFields}
use Rattle.cap_ip.specs.Read.{Reading, found, bad, cut, read_of}
use Rattle.cap_ip.specs.declared.headers.Fragment.{Fragment}
use Rattle.cap_ip.specs.declared.transports.Transport.{Transport}
use Rattle.cap_ip.specs.declared.transports.Transport.TheVariants as transport
use Rattle.cap_join.specs.Fragments.{Piece}
use Rattle.cap_join.specs.declared.datagrams.Stamped.{Stamped}
use Rattle.cap_link.proofs.OtherNetworks.{other-some}
use Rattle.cap_link.specs.Links.{is_not_ipv4, network_of}
use Rattle.cap_link.specs.Seen.{Carried, ipv4, other_link, not_ipv4, short, cut as link_cut}
use Rattle.cap_link.specs.declared.networks.OtherNetwork.{OtherNetwork}
use Rattle.cap_link.specs.declared.networks.OtherNetwork.TheVariants.{Ipv6, Arp, Other}
use Rattle.cap_class.specs.Taken.{Taken, classify, classify_at, classify_by, classify_in, stamped_of}
use Rattle.cap_class.specs.declared.classes.Class.TheVariants as class
use Rattle.cap_class.specs.Classes.{class_by, class_of, classes, classes_in, group_class, groups_of}
use Rattle.cap_class.specs.Counting.{is_class, times}
use Rattle.cap_class.specs.Classes.{joined_transport}
use Rattle.cap_talks.specs.table.OtherNetworks.{OtherNetworks, is_network, other_counts, other_network_at}
use Rattle.cap_talks.specs.table.OtherNetworks.{packets_of_network, sum_of_networks}
use Rattle.cap_talks.specs.inner.table.Others.{with_network}

-- what is read of a transport, or joined, is IPv4
transport-is : (t : Transport) → is_class class.NotIpv4 (class_of t) ≡ false
transport-is (transport.Ports source destination) = refl
transport-is transport.NoPorts = refl
transport-is transport.Bad = refl
transport-is transport.Cut = refl

group-is : (pieces : List Piece) → is_class class.NotIpv4 (group_class pieces) ≡ false
unfolding group_class
group-is pieces = transport-is (joined_transport pieces)

in-group : (group : Option (List Piece))
    → is_class class.NotIpv4 (option_map_or group_class group class.Unjoined) ≡ false
in-group None = refl
in-group (Some pieces) = group-is pieces

by-fragment : (groups : List (List Piece)) (fragment : Option Fragment) (header : HeaderFields) (captured : List ℕ)
    (stamped : Stamped)
    → is_class class.NotIpv4 (class_by groups (classify_by fragment header captured stamped)) ≡ false
by-fragment groups None header captured stamped = transport-is _
by-fragment groups (Some it) header captured stamped = in-group _

by-reading : (groups : List (List Piece)) (reading : Reading) (stamped : Stamped)
    → is_class class.NotIpv4 (class_by groups (classify_in reading stamped)) ≡ false
by-reading groups (found header captured) stamped = by-fragment groups header.fragment header captured stamped
by-reading groups bad stamped = refl
by-reading groups cut stamped = refl

by-carried : (groups : List (List Piece)) (carried : Carried) (whole : Bool) (stamped : Stamped)
    → is_class class.NotIpv4 (class_by groups (classify_at carried whole stamped)) ≡ is_not_ipv4 carried
by-carried groups (ipv4 bytes) whole stamped = by-reading groups (read_of bytes whole) stamped
by-carried groups other_link whole stamped = refl
by-carried groups not_ipv4 whole stamped = refl
by-carried groups short whole stamped = refl
by-carried groups link_cut whole stamped = refl

-- a packet is of the class `NotIpv4` exactly if it has a network other than IPv4
class-is : (groups : List (List Piece)) (place : ℕ) (x : Taken)
    → is_class class.NotIpv4 (class_by groups (classify place x)) ≡ is_some (other_network_at x)
unfolding classify
class-is groups place x =
    by-carried groups (network_of x.meta.interface.link x.frame x.meta.original) _ (stamped_of place x.meta)
    ∙ sym (other-some x.meta.interface.link x.frame x.meta.original)

-- each network is one of three
one-network : (network : Option OtherNetwork)
    → (if is_network Ipv6 network then 1 else 0) + (if is_network Arp network then 1 else 0)
    + (if is_network Other network then 1 else 0) ≡ (if is_some network then 1 else 0)
one-network None = refl
one-network (Some Ipv6) = refl
one-network (Some Arp) = refl
one-network (Some Other) = refl

sum-in : (groups : List (List Piece)) (xs : List Taken)
    → packets_of_network Ipv6 xs + packets_of_network Arp xs + packets_of_network Other xs
    ≡ times class.NotIpv4 (classes_in groups xs)
sum-in groups [] = refl
sum-in groups (x ∷ xs) =
    omega (
      arith,
      sum-in groups xs,
      one-network (other_network_at x),
      ap {B = ℕ} (λ (b : Bool). if b then 1 else 0) (class-is groups (length xs) x),
    )

pub networks-sum : (xs : List Taken) → OtherNetworks xs
unfolding classes
networks-sum xs = sum-in (groups_of xs) xs

-- there are no more of them than packets
one-most : (network : Option OtherNetwork) → (if is_some network then 1 else 0) ≤ 1
one-most None = omega arith
one-most (Some it) = omega arith

pub networks-few : (xs : List Taken) → sum_of_networks (other_counts xs) ≤ length xs
networks-few [] = omega arith
networks-few (x ∷ xs) =
    omega (arith, networks-few xs, one-network (other_network_at x), one-most (other_network_at x))

-- one packet more
pub networks-more : (x : Taken) (xs : List Taken) (network : Option OtherNetwork) → network ≡ other_network_at x
    → with_network network (other_counts xs) ≡ other_counts (x ∷ xs)
networks-more x xs network is =
    ap (λ n. with_network n (other_counts xs)) is ∙ by (other_network_at x) (other_counts xs)
  where
    by : (network : Option OtherNetwork) (n : _) → with_network network n
        ≡ record {
          ipv6 = (if is_network Ipv6 network then 1 else 0) + n.ipv6;
          arp = (if is_network Arp network then 1 else 0) + n.arp;
          other = (if is_network Other network then 1 else 0) + n.other;
        }
    by None n = grind arith
    by (Some Ipv6) n = grind arith
    by (Some Arp) n = grind arith
    by (Some Other) n = grind arith
