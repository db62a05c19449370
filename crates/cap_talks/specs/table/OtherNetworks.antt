-- The networks other than IPv4 of the packets of a run, and how many packets there are of each (RFC 2464, 3; RFC 826;
-- RFC 8200, 3). Lists have the latest first.
use Rattle.std.specs.Prelude.{◌≡◌, ℕ, ◌+◌, ◌==◌, List, [], ◌∷◌, Bool, true, false, Option, Some, None, if◌then◌else◌}
use Rattle.cap_link.specs.Links.{other_network_of}
use Rattle.cap_link.specs.declared.networks.OtherNetwork.{OtherNetwork}
use Rattle.cap_link.specs.declared.networks.OtherNetwork.TheVariants.{Ipv6, Arp, Other}
use Rattle.cap_class.specs.Taken.{Taken}
use Rattle.cap_class.specs.Counting.{counts_of}
use Rattle.cap_class.specs.Classes.{classes}
use Rattle.cap_talks.specs.declared.table.others.OtherCounts.{OtherCounts}

-- the network of a packet, if that is one other than IPv4
abbrev pub other_network_at : Taken → Option OtherNetwork
other_network_at x = other_network_of x.meta.interface.link x.frame

-- the networks in the order in which they are told
abbrev pub network_rank : OtherNetwork → ℕ
network_rank Ipv6 = 0
network_rank Arp = 1
network_rank Other = 2

abbrev pub is_network : OtherNetwork → Option OtherNetwork → Bool
is_network network None = false
is_network network (Some it) = network_rank network == network_rank it

-- how many packets are of a network
abbrev pub packets_of_network : OtherNetwork → List Taken → ℕ
packets_of_network network [] = 0
packets_of_network network (x ∷ xs) =
    (if is_network network (other_network_at x) then 1 else 0) + packets_of_network network xs

-- how many packets there are of each network other than IPv4
abbrev pub other_counts : List Taken → OtherCounts
other_counts xs =
    record {
      ipv6 = packets_of_network Ipv6 xs;
      arp = packets_of_network Arp xs;
      other = packets_of_network Other xs;
    }

-- the same, if they are counted
abbrev pub counts_if : Bool → List Taken → Option OtherCounts
counts_if false xs = None
counts_if true xs = Some (other_counts xs)

abbrev pub sum_of_networks : OtherCounts → ℕ
sum_of_networks n = n.ipv6 + n.arp + n.other

-- They add up to the number of packets of the class `NotIpv4`, which the report prints.
abbrev pub OtherNetworks : List Taken → Type 0
OtherNetworks xs = sum_of_networks (other_counts xs) ≡ (counts_of (classes xs)).not_ipv4
