-- What is written for a list of packets (draft-ietf-opsawg-pcapng, 4.1 to 4.3).
use Rattle.std.specs.Prelude.{◌==◌, ℕ, ◌+◌, if◌then◌else◌, List, [], ◌∷◌, ◌++◌, Option, Some, None}
use Rattle.cap_bytes.specs.declared.faults.Refusal.{Refusal}
use Rattle.cap_bytes.specs.declared.faults.Rule.{Rule}
use Rattle.cap_bytes.specs.declared.numbers.Order.{Order}
use Rattle.cap_blocks.specs.Grammar.{section_bytes, interface_bytes, packet_bytes}
use Rattle.cap_source.specs.Feed.{Item}
use Rattle.cap_source.specs.declared.packets.Meta.{Meta}
use Rattle.cap_time.specs.declared.resolutions.Interface.{Interface}
use Rattle.cap_write.specs.Numbering.{Origins, own, shared, count_of, Numbered, numbered_of, numbered, write_fault}
use Rattle.cap_write.specs.Numbering.{refusal_in}

-- what is written for a packet, after `count` interfaces were described: its interface, if that
-- wasn't, and the packet
abbrev pub interface_part : Order → ℕ → Numbered → List ℕ
interface_part order count n = if n.number == count then interface_bytes order n.interface else []

abbrev pub packet_part : Order → Numbered → List ℕ
packet_part order n = packet_bytes order n.number n.units n.original n.frame

abbrev pub numbered_bytes : Order → ℕ → Numbered → List ℕ
numbered_bytes order count n = interface_part order count n ++ packet_part order n

-- how many are described after it
abbrev pub count_after : ℕ → Numbered → ℕ
count_after count n = if n.number == count then count + 1 else count

-- what is written for some packets, one after the other
unfoldable pub packets_bytes : Order → ℕ → List Numbered → List ℕ
packets_bytes order count [] = []
packets_bytes order count (n ∷ rest) =
    numbered_bytes order count n ++ packets_bytes order (count_after count n) rest

-- what is written for the next packet of a list, after those interfaces were described: nothing if
-- it is refused
abbrev pub text_or : Option Rule → List ℕ → List ℕ
text_or (Some rule) text = []
text_or None text = text

abbrev pub one_bytes : Order → Origins → Meta → List ℕ → List ℕ
one_bytes order origins meta frame =
    text_or (write_fault origins meta) (numbered_bytes order (count_of origins) (numbered_of origins meta frame))

-- What is written for a list after those interfaces were described. A written interface block or
-- packet block has the form of `interface_bytes` or `packet_bytes`.
abbrev pub text_behind : Order → Origins → List Item → List ℕ
text_behind order origins items = packets_bytes order (count_of origins) (numbered origins items)

-- what is written for a list as one section: its header, and each interface that isn't one of those in front of its
-- first packet
abbrev pub section_text : Order → Origins → List Item → List ℕ
section_text order origins items = section_bytes order ++ text_behind order origins items

-- what is written for a merged list, in which each file has interfaces of its own
abbrev pub merged_bytes : Order → List Item → List ℕ
merged_bytes order items = section_text order (own []) items

abbrev pub merged_refusal : List Item → Option Refusal
merged_refusal items = refusal_in (own []) items

-- what is written for a merged list, in which equal interfaces are one
abbrev pub sharing_bytes : Order → List Item → List ℕ
sharing_bytes order items = section_text order (shared []) items

abbrev pub sharing_refusal : List Item → Option Refusal
sharing_refusal items = refusal_in (shared []) items

-- What is written for one file as pcapng: its first interface, if it has one, stands right after the
-- section header.
abbrev pub first_origins : ℕ → Option Interface → Origins
first_origins file None = own []
first_origins file (Some interface) = own ((file, 0) ∷ [])

abbrev pub first_bytes : Order → Option Interface → List ℕ
first_bytes order None = []
first_bytes order (Some interface) = interface_bytes order interface

abbrev pub front_bytes : Order → Option Interface → List ℕ
front_bytes order first = section_bytes order ++ first_bytes order first

abbrev pub pcapng_bytes : Order → ℕ → Option Interface → List Item → List ℕ
pcapng_bytes order file first items =
    front_bytes order first ++ text_behind order (first_origins file first) items

abbrev pub pcapng_refusal : ℕ → Option Interface → List Item → Option Refusal
pcapng_refusal file first items = refusal_in (first_origins file first) items
