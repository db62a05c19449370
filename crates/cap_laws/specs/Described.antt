-- What `list --class` says of a packet, beside the report.
use Rattle.std.specs.Prelude.{◌≡◌, ℕ, Bool, List, map}
use Rattle.cap_class.specs.Taken.{Taken}
use Rattle.cap_laws.specs.InOrder.{classes_at}
use Rattle.cap_laws.specs.Sums.{parts_among}
use Rattle.cap_source.specs.declared.packets.Meta.{Meta}
use Rattle.cap_class.specs.Ipv6.{lone_class_for}
use Rattle.cap_talks.specs.table.Descriptions.{describe_for, described_class}

-- It is the class that the packet has in a report over it alone, whether both read IPv6 packets or not.
abbrev pub DescribedAlone : Type 0
DescribedAlone =
    (reads : Bool) (meta : Meta) (frame : List ℕ)
    → described_class (describe_for reads meta frame) ≡ lone_class_for reads meta frame

-- If none of some packets is an IPv4 fragment, it is the class that each has in the report over all of them, if both
-- read IPv6 packets, and if neither does.
abbrev pub DescribedTogether : Type 0
DescribedTogether =
    (reads : Bool) (xs : List Taken) → parts_among xs ≡ 0
    → classes_at reads xs ≡ map (λ x. described_class (describe_for reads x.meta x.frame)) xs
