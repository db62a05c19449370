-- Texts that are put together in pieces.
use Rattle.std.proofs.Common.{◌≡◌, ℕ, ◌+◌, ◌≤◌, List, [], ◌∷◌, ◌++◌, length, refl, sym, ◌∙◌, arith, append_assoc}
use Rattle.std.proofs.Common.{length-append}
use Rattle.std.proofs.lemmas.Bool.Decides.{nat_tests}
use Rattle.std.proofs.lemmas.List.{length-replicate}
use Rattle.std.specs.Int.{w64, cast_unsigned}
use Rattle.cap_bytes.specs.Number.{bytes_of}
use Rattle.cap_bytes.specs.declared.numbers.Order.{Order}
use Rattle.cap_bytes.proofs.Spelling.{length-bytes_of}
use Rattle.cap_time.specs.Resolution.{code_of}
use Rattle.cap_time.specs.declared.resolutions.Interface.{Interface}
use Rattle.cap_blocks.specs.Grammar.{section_kind, interface_kind, enhanced_kind, order_magic, block_bytes}
use Rattle.cap_blocks.specs.Grammar.{section_body, option_bytes, offset_option, interface_body, packet_body}
use Rattle.cap_blocks.specs.Grammar.{interface_total, packet_head, packet_tail, section_bytes, interface_bytes}
use Rattle.cap_blocks.specs.Grammar.{packet_bytes}
use Rattle.cap_blocks.specs.OptionList.{padded}

-- a block by its total length
pub block_bytes-sized : (order : Order) (kind total : ℕ) (body : List ℕ) → 12 + length body ≡ total
    → block_bytes order kind body ≡ bytes_of order 4 kind ++ bytes_of order 4 total ++ body ++ bytes_of order 4 total
unfolding block_bytes
block_bytes-sized order kind total body size = rw size refl

-- how long the written bodies are
pub length-section_body : (order : Order) → length (section_body order) ≡ 16
length-section_body order = simp (length-append, length-bytes_of)

pub length-offset_option : (order : Order) (seconds : ℕ)
    → length (offset_option order seconds) + 32 ≡ interface_total seconds
length-offset_option order seconds = grind (arith, length-bytes_of, length-append)

pub interface_total-most : (seconds : ℕ) → interface_total seconds ≤ 44
interface_total-most seconds = grind (arith, nat_tests)

-- the options round that of the offset
length_around : (order : Order) (link snaplen code : ℕ) (offset : List ℕ)
    → length (bytes_of order 2 link ++ bytes_of order 2 0 ++ bytes_of order 4 snaplen
    ++ (option_bytes order 9 (code ∷ []) ++ offset ++ option_bytes order 0 []))
    ≡ 20 + length offset
length_around order link snaplen code offset = simp (length-append, length-bytes_of) (omega arith)

pub length-interface_body : (order : Order) (interface : Interface)
    → 12 + length (interface_body order interface) ≡ interface_total (cast_unsigned w64 interface.offset)
length-interface_body order interface = grind (arith, length_around, length-offset_option)

pub length-packet_body : (order : Order) (interface units original : ℕ) (bytes : List ℕ)
    → 12 + length (packet_body order interface units original bytes) ≡ 32 + padded (length bytes)
length-packet_body order interface units original bytes =
    grind (arith, length-append, length-bytes_of, length-replicate)

-- a section header, piece by piece
pub section_bytes-pieces : (order : Order)
    → (((((([] ++ bytes_of order 4 section_kind) ++ bytes_of order 4 28) ++ bytes_of order 4 order_magic)
    ++ bytes_of order 2 1)
    ++ bytes_of order 2 0) ++ bytes_of order 8 0xFFFF_FFFF_FFFF_FFFF) ++ bytes_of order 4 28
    ≡ section_bytes order
section_bytes-pieces order = grind (arith, block_bytes-sized, length-section_body, append_assoc)

-- an interface block, piece by piece
pub interface_bytes-pieces : (order : Order) (interface : Interface) (total : ℕ)
    → total ≡ interface_total (cast_unsigned w64 interface.offset)
    → ((((((((((([] ++ bytes_of order 4 interface_kind) ++ bytes_of order 4 total) ++ bytes_of order 2 interface.link)
    ++ bytes_of order 2 0)
    ++ bytes_of order 4 interface.snaplen) ++ bytes_of order 2 9) ++ bytes_of order 2 1)
    ++ (code_of interface.resolution ∷ 0 ∷ 0 ∷ 0 ∷ [])) ++ offset_option order (cast_unsigned w64 interface.offset))
    ++ bytes_of order 2 0) ++ bytes_of order 2 0) ++ bytes_of order 4 total
    ≡ interface_bytes order interface
interface_bytes-pieces order interface total is =
    rw (block_bytes-sized order interface_kind total (interface_body order interface)
    (length-interface_body order interface ∙ sym is)) (simp append_assoc)

-- a packet, in the three parts that are written
pub packet_bytes-parts : (order : Order) (interface units original : ℕ) (bytes : List ℕ)
    → packet_head order interface units (length bytes) original ++ (bytes ++ packet_tail order (length bytes))
    ≡ packet_bytes order interface units original bytes
packet_bytes-parts order interface units original bytes =
    rw (block_bytes-sized order enhanced_kind (32 + padded (length bytes))
    (packet_body order interface units original bytes)
    (length-packet_body order interface units original bytes)) (simp append_assoc)
