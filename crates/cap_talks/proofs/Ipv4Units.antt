-- Units of IPv4.
use Rattle.std.proofs.Common.{◌≡◌, ℕ, Bool, true, false, List, refl}
use Rattle.std.specs.Prelude.{if◌then◌else◌}
use Rattle.cap_talks.specs.inner.table.Ipv4Units.{end_of_ipv4, unit_between}
use Rattle.cap_talks.specs.inner.table.Knowing.{IsKeyOf}
use Rattle.cap_talks.specs.inner.table.Packed.{IsNarrow, is_ipv4_key, packed}
use Rattle.cap_talks.specs.table.Conversations.{is_forward, talk_key}
use Rattle.cap_talks.specs.declared.table.keys.PackedKey.{PackedKey}
use Rattle.cap_talks.specs.declared.table.keys.WideKey.{WideKey}
use Rattle.cap_talks.specs.declared.table.ipv4_units.Ipv4End.{Ipv4End}
use Rattle.cap_talks.specs.declared.table.ipv4_units.Ipv4Ends.{Ipv4Ends}
use Rattle.cap_talks.proofs.Packing.{key-of-ipv4}

-- both of their ends are of that network
ipv4-either : (way : Bool) (source destination : Ipv4End) (protocol : ℕ)
    → is_ipv4_key (if way then record {
      protocol = protocol;
      lesser = end_of_ipv4 source;
      greater = end_of_ipv4 destination;
    } else record { protocol = protocol; lesser = end_of_ipv4 destination; greater = end_of_ipv4 source }) ≡ true
ipv4-either true source destination protocol = refl
ipv4-either false source destination protocol = refl

ipv4-key : (ends : Ipv4Ends) → is_ipv4_key (talk_key (unit_between ends)) ≡ true
ipv4-key ends = ipv4-either (is_forward (unit_between ends)) ends.source ends.destination ends.protocol

pub key-of-ends : (known : List WideKey) (ends : Ipv4Ends) (it : PackedKey × Bool)
    → it.0 ≡ packed (talk_key (unit_between ends)) → IsNarrow (talk_key (unit_between ends))
    → it.1 ≡ is_forward (unit_between ends) → IsKeyOf known (unit_between ends) it
key-of-ends known ends it is narrow way = key-of-ipv4 known (unit_between ends) it is (ipv4-key ends) narrow way
