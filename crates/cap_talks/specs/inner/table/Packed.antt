-- Keys of conversations as they are looked up. A key of IPv4 addresses is two numbers. Any other is kept among those
-- known, and two numbers name its place there.
use Rattle.std.specs.Prelude.{ℕ, zero, suc, ◌+◌, ◌*◌, ◌/◌, ◌%◌, ◌<◌, ◌^◌, List, [], ◌∷◌, map, Bool, true, nat_lt, ◌==◌}
use Rattle.std.specs.Prelude.{◌&&◌, ◌||◌, not, Option, Some, None, IfSome, if◌then◌else◌, length, slice_get}
use Rattle.std.specs.List.{list_all, list_any}
use Rattle.std.specs.Option.{option_map_or}
use Rattle.cap_talks.specs.declared.table.keys.PackedKey.{PackedKey}
use Rattle.cap_talks.specs.declared.table.keys.WideKey.{WideKey}
use Rattle.cap_talks.specs.declared.table.rows.TalkKey.{TalkKey}
use Rattle.cap_talks.specs.declared.table.rows.TalkRow.{TalkRow}
use Rattle.cap_talks.specs.declared.table.units.Address.{Address}
use Rattle.cap_talks.specs.declared.table.units.Address.TheVariants.{Ipv4, Ipv6}
use Rattle.cap_talks.specs.declared.table.units.Endpoint.{Endpoint}
use Rattle.cap_talks.specs.table.Conversations.{Conversation}
use Rattle.cap_talks.specs.table.Units.{number_of, version_of}

-- ---- parts of ends

-- a port as a number: 0 is none
abbrev pub port_number : Option ℕ → ℕ
port_number None = 0
port_number (Some port) = port + 1

abbrev pub port_of : ℕ → Option ℕ
port_of zero = None
port_of (suc port) = Some port

-- an IPv4 address has 32 bits (RFC 791, 3.1), one of IPv6 128 (RFC 8200, 3), and a port 16 (RFC 768; RFC 9293, 3.1)
abbrev pub IsNarrowAddress : Address → Type 0
IsNarrowAddress (Ipv4 address) = address < 2 ^ 32
IsNarrowAddress (Ipv6 address) = address < 2 ^ 128

pub record IsNarrowEnd (end : Endpoint) : Type 0 where
  pub address : IsNarrowAddress end.address
  pub port : IfSome end.port (λ port. port < 65536)

pub record IsNarrow (key : TalkKey) : Type 0 where
  pub protocol : key.protocol < 256
  pub lesser : IsNarrowEnd key.lesser
  pub greater : IsNarrowEnd key.greater

-- ---- keys of IPv4 addresses

-- an end is of IPv4
abbrev pub is_ipv4_end : Endpoint → Bool
is_ipv4_end end = version_of end.address == 4

-- both ends are
abbrev pub is_ipv4_key : TalkKey → Bool
is_ipv4_key key = is_ipv4_end key.lesser && is_ipv4_end key.greater

-- an end as a number, which has room for 2^17 ports
abbrev pub end_number : Endpoint → ℕ
end_number end = number_of end.address * 131072 + port_number end.port

abbrev pub end_at_number : ℕ → Endpoint
end_at_number number = record { address = Ipv4 (number / 131072); port = port_of (number % 131072) }

-- a key as two numbers: its lesser end, with the protocol, and its greater end
abbrev pub packed : TalkKey → PackedKey
packed key = record { lesser = end_number key.lesser * 256 + key.protocol; greater = end_number key.greater }

abbrev pub talk_of_packed : PackedKey → TalkKey
talk_of_packed key = record {
  protocol = key.lesser % 256;
  lesser = end_at_number (key.lesser / 256);
  greater =
      end_at_number key.greater;
}

-- a number is that of such an end
abbrev pub is_end_number : ℕ → Bool
is_end_number number = nat_lt (number / 131072) (2 ^ 32) && nat_lt (number % 131072) 65537

-- ---- other keys

-- an end without its address as a number: its network is the lowest bit
abbrev pub side_number : Endpoint → ℕ
side_number end = port_number end.port * 2 + (if is_ipv4_end end then 0 else 1)

abbrev pub address_of_side : ℕ → ℕ → Address
address_of_side number side = if side % 2 == 0 then Ipv4 number else Ipv6 number

abbrev pub end_of_side : ℕ → ℕ → Endpoint
end_of_side number side = record { address = address_of_side number side; port = port_of (side / 2) }

-- a key as three numbers: both addresses, and the rest, in which each side has 18 bits and the protocol 8
abbrev pub widened : TalkKey → WideKey
widened key =
    record {
      lesser = number_of key.lesser.address;
      greater = number_of key.greater.address;
      rest = (side_number key.lesser * 262144 + side_number key.greater) * 256 + key.protocol;
    }

abbrev pub talk_of_wide : WideKey → TalkKey
talk_of_wide key =
    record {
      protocol = key.rest % 256;
      lesser = end_of_side key.lesser (key.rest / 256 / 262144);
      greater = end_of_side key.greater (key.rest / 256 % 262144);
    }

-- a number and a side are those of an end
abbrev pub is_side : ℕ → ℕ → Bool
is_side number side = nat_lt (side / 2) 65537 && (not (side % 2 == 0) || nat_lt number (2 ^ 32))

-- three numbers are those of two ends, one of them of IPv6
abbrev pub is_wide : WideKey → Bool
is_wide key =
    is_side key.lesser (key.rest / 256 / 262144) && is_side key.greater (key.rest / 256 % 262144)
    && not (is_ipv4_key (talk_of_wide key))

abbrev pub same_wide : WideKey → WideKey → Bool
same_wide a b = (a.lesser == b.lesser) && ((a.greater == b.greater) && (a.rest == b.rest))

-- keys that are known: each is of such ends, and each is there once
abbrev pub are_known : List WideKey → Bool
are_known [] = true
are_known (key ∷ known) = is_wide key && (not (list_any (same_wide key) known) && are_known known)

-- ---- keys of a table

-- the lesser number of a key whose greater number is a place among the keys known: no end of IPv4 has it
abbrev pub mark : ℕ
mark = 9223372036854775808

abbrev pub is_marked : PackedKey → Bool
is_marked key = key.lesser == mark

-- what is read where no key is known
abbrev pub no_talk : TalkKey
no_talk = talk_of_packed (record { lesser = 0; greater = 0 })

-- the key that two numbers are, among those known
abbrev pub unpacked : List WideKey → PackedKey → TalkKey
unpacked known key =
    if is_marked key then option_map_or talk_of_wide (slice_get known key.greater) no_talk else talk_of_packed key

-- two numbers are those of a key
abbrev pub is_packed : List WideKey → PackedKey → Bool
is_packed known key =
    if is_marked key then nat_lt key.greater (length known)
    else is_end_number (key.lesser / 256) && is_end_number key.greater

-- both of its numbers as one of 128 bits
abbrev pub both_numbers : PackedKey → ℕ
both_numbers key = key.lesser * 2 ^ 64 + key.greater

-- two packed keys are the same
abbrev pub same_packed : PackedKey → PackedKey → Bool
same_packed a b = (a.lesser == b.lesser) && (a.greater == b.greater)

-- the conversations of a table, whose keys are packed
abbrev pub unpacked_talk : List WideKey → PackedKey × TalkRow → Conversation
unpacked_talk known entry = (unpacked known entry.0, entry.1)

abbrev pub unpacked_talks : List WideKey → List (PackedKey × TalkRow) → List Conversation
unpacked_talks known entries = map (unpacked_talk known) entries

abbrev pub are_packed : List WideKey → List (PackedKey × TalkRow) → Bool
are_packed known entries = list_all (λ entry. is_packed known entry.0) entries
