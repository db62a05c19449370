-- Which bytes spell the blocks of a pcapng file, and which bytes are written for them
-- (draft-ietf-opsawg-pcapng, 3.1, 3.5 and 4.1 to 4.4).
use Rattle.std.specs.Prelude.{◌≡◌, ◌==◌, ◌||◌, ◌&&◌, ℕ, ◌+◌, ◌/◌, ◌%◌, ◌-◌, nat_le, not, Bool, IsTrue, ◌^◌}
use Rattle.std.specs.Prelude.{if◌then◌else◌, List, [], ◌∷◌, ◌++◌, length, take, drop, replicate}
use Rattle.std.specs.Int.{w64, cast_unsigned}
use Rattle.cap_bytes.specs.Number.{number, bytes_of}
use Rattle.cap_bytes.specs.declared.numbers.Order.{Order}
use Rattle.cap_time.specs.Resolution.{code_of}
use Rattle.cap_time.specs.declared.resolutions.Interface.{Interface}
use Rattle.cap_blocks.specs.OptionList.{padded}

-- The kinds of block that are known: section headers (draft-ietf-opsawg-pcapng, 4.1), interfaces (4.2),
-- obsolete packets (Appendix A), simple packets (4.4) and enhanced packets (4.3). A section header's
-- kind reads the same in both orders.
abbrev pub section_kind : ℕ
section_kind = 0x0A0D0D0A

abbrev pub interface_kind : ℕ
interface_kind = 1

abbrev pub obsolete_kind : ℕ
obsolete_kind = 2

abbrev pub simple_kind : ℕ
simple_kind = 3

abbrev pub enhanced_kind : ℕ
enhanced_kind = 6

abbrev pub is_known_kind : ℕ → Bool
is_known_kind kind =
    (kind == section_kind) || (kind == interface_kind) || (kind == obsolete_kind) || (kind == simple_kind)
    || (kind == enhanced_kind)

-- the least total length of a block of that kind: its fixed fields and the 12 bytes round the body
abbrev pub least_total : ℕ → ℕ
least_total kind =
    if kind == section_kind then 28 else
    if kind == interface_kind then 20 else
    if kind == obsolete_kind then 32 else
    if kind == simple_kind then 16 else
    if kind == enhanced_kind then 32 else 12

-- Whether a block of that kind may have that total length (draft-ietf-opsawg-pcapng, 3.1); one of a known kind
-- has at most as many bytes as are read.
unfoldable pub is_total : ℕ → ℕ → Bool
is_total kind total =
    (total % 4 == 0) && nat_le (least_total kind) total && (not (is_known_kind kind) || nat_le total 524288)

-- what a section header's order magic reads as in the section's order (draft-ietf-opsawg-pcapng, 4.1).
abbrev pub order_magic : ℕ
order_magic = 0x1A2B3C4D

-- whether a section's version is one that is read: 1.0 or 1.2
abbrev pub is_section_version : ℕ → ℕ → Bool
is_section_version major minor = (major == 1) && ((minor == 0) || (minor == 2))

-- The body of a section header has the order's magic and a version that is read. Its section length and
-- its options are free.
pub record SpellsSection (order : Order) (body : List ℕ) : Type 0 where
  pub magic : number order 4 body ≡ order_magic
  pub version : IsTrue (is_section_version (number order 2 (drop 4 body)) (number order 2 (drop 6 body)))

-- The bytes spell a block of that kind with that body: the kind, the total length, the body, and the
-- total length again (draft-ietf-opsawg-pcapng, 3.1).
pub record SpellsBlock (order : Order) (kind : ℕ) (body bytes : List ℕ) : Type 0 where
  pub size : length bytes ≡ 12 + length body
  pub kind_is : number order 4 bytes ≡ kind
  pub total : number order 4 (drop 4 bytes) ≡ length bytes
  pub body_is : take (length body) (drop 8 bytes) ≡ body
  pub trailer : number order 4 (drop (8 + length body) bytes) ≡ length bytes
  pub allowed : IsTrue (is_total kind (length bytes))
  pub section : kind ≡ section_kind → SpellsSection order body

-- a block as it is written: its kind, the total length on both sides, and its body
unfoldable pub block_bytes : Order → ℕ → List ℕ → List ℕ
block_bytes order kind body =
    bytes_of order 4 kind ++ bytes_of order 4 (12 + length body) ++ body ++ bytes_of order 4 (12 + length body)

-- the body of a section header of version 1.0, whose length is left open
abbrev pub section_body : Order → List ℕ
section_body order =
    bytes_of order 4 order_magic ++ bytes_of order 2 1 ++ bytes_of order 2 0 ++ bytes_of order 8 0xFFFF_FFFF_FFFF_FFFF

-- an option, of which the value is padded by zeros (draft-ietf-opsawg-pcapng, 3.5).
abbrev pub option_bytes : Order → ℕ → List ℕ → List ℕ
option_bytes order code value =
    bytes_of order 2 code ++ bytes_of order 2 (length value) ++ value
    ++ replicate (padded (length value) - length value) 0

-- the options of an interface: its resolution, its offset if that isn't 0, in two's complement, and the
-- end (draft-ietf-opsawg-pcapng, 4.2).
abbrev pub offset_option : Order → ℕ → List ℕ
offset_option order seconds = if seconds == 0 then [] else option_bytes order 14 (bytes_of order 8 seconds)

abbrev pub interface_options : Order → Interface → List ℕ
interface_options order interface =
    option_bytes order 9 (code_of interface.resolution ∷ [])
    ++ offset_option order (cast_unsigned w64 interface.offset)
    ++ option_bytes order 0 []

-- the body of an interface block
abbrev pub interface_body : Order → Interface → List ℕ
interface_body order interface =
    bytes_of order 2 interface.link ++ bytes_of order 2 0 ++ bytes_of order 4 interface.snaplen
    ++ interface_options order interface

-- the body of an enhanced packet block without options
abbrev pub packet_body : Order → ℕ → ℕ → ℕ → List ℕ → List ℕ
packet_body order interface units original bytes =
    bytes_of order 4 interface ++ bytes_of order 4 (units / 2 ^ 32) ++ bytes_of order 4 (units % 2 ^ 32)
    ++ bytes_of order 4 (length bytes) ++ bytes_of order 4 original
    ++ bytes ++ replicate (padded (length bytes) - length bytes) 0

-- how many bytes an interface block takes
abbrev pub interface_total : ℕ → ℕ
interface_total seconds = if seconds == 0 then 32 else 44

-- what is written of a packet in front of its captured bytes, and after them
abbrev pub packet_head : Order → ℕ → ℕ → ℕ → ℕ → List ℕ
packet_head order interface units captured original =
    bytes_of order 4 enhanced_kind ++ bytes_of order 4 (32 + padded captured)
    ++ bytes_of order 4 interface ++ bytes_of order 4 (units / 2 ^ 32) ++ bytes_of order 4 (units % 2 ^ 32)
    ++ bytes_of order 4 captured ++ bytes_of order 4 original

abbrev pub packet_tail : Order → ℕ → List ℕ
packet_tail order captured = replicate (padded captured - captured) 0 ++ bytes_of order 4 (32 + padded captured)

-- what is written for a section header, an interface and a packet
abbrev pub section_bytes : Order → List ℕ
section_bytes order = block_bytes order section_kind (section_body order)

abbrev pub interface_bytes : Order → Interface → List ℕ
interface_bytes order interface = block_bytes order interface_kind (interface_body order interface)

abbrev pub packet_bytes : Order → ℕ → ℕ → ℕ → List ℕ → List ℕ
packet_bytes order interface units original bytes =
    block_bytes order enhanced_kind (packet_body order interface units original bytes)
