-- What is true of the grammar of pcapng files, whatever reads or writes them.
use Rattle.std.specs.Prelude.{◌≡◌, ◌==◌, if◌then◌else◌, ◌+◌, ◌*◌, ◌^◌, ◌≤◌, ◌<◌, ℕ, List, [], ◌∷◌, ◌++◌, length, drop}
use Rattle.std.specs.Prelude.{take, Option, Some, None, is_some, IsSome, Ok}
use Rattle.std.specs.Int.{w64, cast_unsigned}
use Rattle.cap_bytes.specs.Items.{stop_by, PieceItem, given, stopped}
use Rattle.cap_bytes.specs.Number.{number, bytes_of}
use Rattle.cap_bytes.specs.declared.numbers.Order.{Order}
use Rattle.cap_bytes.specs.declared.faults.Rule.{Rule}
use Rattle.cap_bytes.specs.declared.faults.Tail.{Tail}
use Rattle.cap_time.specs.Resolution.{code_of}
use Rattle.cap_time.specs.declared.resolutions.Interface.{Interface}
use Rattle.cap_blocks.specs.Grammar.{section_kind, interface_kind, enhanced_kind, SpellsBlock, section_body}
use Rattle.cap_blocks.specs.Grammar.{section_bytes, interface_body, interface_bytes, packet_body, packet_bytes}
use Rattle.cap_blocks.specs.OptionList.{OptionItem, options_of}
use Rattle.cap_blocks.specs.Split.{BlockPiece, piece_size, MayFollow, BeginsPiece, SplitsBlocks, AreBytes}
use Rattle.cap_blocks.specs.Split.{block_order_at, total_at, body_at}
use Rattle.cap_blocks.specs.Split.{block_fault, block_at, block_stop_at, block_items_from}
use Rattle.cap_blocks.specs.declared.blocks.Block.{Block}
use Rattle.cap_bytes.specs.declared.stops.Stop.{Stop}
use Rattle.cap_bytes.specs.declared.stops.Stop.TheVariants as stops

-- the block that a piece is, which begins at that offset
abbrev pub block_of : ℕ → BlockPiece → Block
block_of offset piece = record { kind = piece.kind; offset = offset; total = piece_size piece; order = piece.order }

-- No block's spelling is a proper prefix of another's, and no bytes spell two blocks.
abbrev pub OneBlock : Type 0
OneBlock =
    (section : Option Order) (p q : BlockPiece) (a b x y : List ℕ) → AreBytes (a ++ x)
    → MayFollow section p → MayFollow section q
    → SpellsBlock p.order p.kind p.body a → SpellsBlock q.order q.kind q.body b → a ++ x ≡ b ++ y
    → (a ≡ b) × (p ≡ q) × (x ≡ y)

-- A file splits in one way.
abbrev pub OneBlockSplit : Type 0
OneBlockSplit =
    (section : Option Order) (offset : ℕ) (bytes : List ℕ) (ps qs : List BlockPiece) (r s : List ℕ) → AreBytes bytes
    → SplitsBlocks section offset bytes ps r → SplitsBlocks section offset bytes qs s → (ps ≡ qs) × (r ≡ s)

-- Bytes that spell a block are read as that block, whatever follows them.
abbrev pub BlockRead : Type 0
BlockRead =
    (section : Option Order) (tail : Tail) (file offset : ℕ) (piece : BlockPiece) (bytes : List ℕ) → AreBytes bytes
    → BeginsPiece section offset piece bytes
    → block_items_from section tail file offset bytes
    ≡ given (block_of offset piece) piece.body
    ∷ block_items_from (Some piece.order) tail file (offset + piece_size piece) (drop (piece_size piece) bytes)

-- If nothing ends the blocks, the bytes at the front spell one.
abbrev pub BlockThere : Type 0
BlockThere =
    (section : Option Order) (tail : Tail) (file offset : ℕ) (bytes : List ℕ) → AreBytes bytes
    → block_stop_at section tail file offset bytes ≡ None → (piece : BlockPiece)
    × BeginsPiece section offset piece bytes

-- the place after some pieces, and the section there
abbrev pub place_behind_blocks : ℕ → List BlockPiece → ℕ
place_behind_blocks offset [] = offset
place_behind_blocks offset (piece ∷ pieces) = place_behind_blocks (offset + piece_size piece) pieces

abbrev pub section_behind : Option Order → List BlockPiece → Option Order
section_behind section [] = section
section_behind section (piece ∷ pieces) = section_behind (Some piece.order) pieces

-- the items of some pieces, and what ends them
abbrev pub block_items_with : ℕ → List BlockPiece → Stop → List (PieceItem Block)
block_items_with offset [] stop = stopped stop ∷ []
block_items_with offset (piece ∷ pieces) stop =
    given (block_of offset piece) piece.body ∷ block_items_with (offset + piece_size piece) pieces stop

-- Every file splits,
abbrev pub EveryBlockSplit : Type 0
EveryBlockSplit =
    (section : Option Order) (offset : ℕ) (bytes : List ℕ) → AreBytes bytes
    → (pieces : List BlockPiece) × (rest : List ℕ) × SplitsBlocks section offset bytes pieces rest

-- and its items are those of the split: its blocks, and what the rest is.
abbrev pub BlockSplitItems : Type 0
BlockSplitItems =
    (section : Option Order) (tail : Tail) (file offset : ℕ) (bytes : List ℕ) (pieces : List BlockPiece) (rest : List ℕ)
    → AreBytes bytes
    → SplitsBlocks section offset bytes pieces rest
    → (stop : Stop)
    × (block_stop_at (section_behind section pieces) tail file (place_behind_blocks offset pieces) rest ≡ Some stop)
    × (block_items_from section tail file offset bytes ≡ block_items_with offset pieces stop)

-- The items of no bytes after a whole block, at a fault, and at a block that others follow.
abbrev pub ItemsAtNone : Type 0
ItemsAtNone =
    (section : Option Order) (tail : Tail) (file offset : ℕ) → IsSome section
    → block_items_from section tail file offset [] ≡ stopped stops.End ∷ []

abbrev pub ItemsAtFault : Type 0
ItemsAtFault =
    (section : Option Order) (tail : Tail) (file offset : ℕ) (bytes : List ℕ) (rule : Rule)
    → (IsSome section → bytes ≡ [] → ⊥) → block_fault section offset bytes ≡ Some rule
    → block_items_from section tail file offset bytes
    ≡ stopped (stop_by (is_some section) tail file offset (length bytes) rule) ∷ []

abbrev pub ItemsAtBlock : Type 0
ItemsAtBlock =
    (section : Option Order) (tail : Tail) (file offset : ℕ) (bytes : List ℕ)
    → block_fault section offset bytes ≡ None
    → (let order = block_order_at section bytes in
    let total = total_at order bytes in
    block_items_from section tail file offset bytes
    ≡ given (block_at section offset bytes) (body_at section bytes)
    ∷ block_items_from (Some order) tail file (offset + total) (drop total bytes))

-- A text spells a block in such a section, and is read as that block, whatever follows it.
pub record IsReadAs (section : Option Order) (piece : BlockPiece) (text : List ℕ) : Type 0 where
  pub spelled : SpellsBlock piece.order piece.kind piece.body text
  pub items : (tail : Tail) (file offset : ℕ) (rest : List ℕ) → offset + length text ≤ 2 ^ 40
      → block_items_from section tail file offset (text ++ rest)
      ≡ given (block_of offset piece) piece.body ∷ block_items_from (Some piece.order) tail file (offset
      + length text) rest

-- what is written for a section header, whatever section stands before it
abbrev pub SectionAgain : Type 0
SectionAgain =
    (section : Option Order) (order : Order)
    → IsReadAs section (record { order = order; kind = section_kind; body = section_body order }) (section_bytes order)

-- the options that are written for an interface
abbrev pub offset_items : Order → ℕ → List OptionItem
offset_items order seconds = if seconds == 0 then [] else Ok (14, bytes_of order 8 seconds) ∷ []

-- What is written for an interface, whose body gives the same values.
abbrev pub InterfaceAgain : Type 0
InterfaceAgain =
    (order : Order) (interface : Interface) → interface.link < 2 ^ 16 → interface.snaplen < 2 ^ 32
    → (let body = interface_body order interface in
    IsReadAs (Some order) (record { order = order; kind = interface_kind; body = body })
    (interface_bytes order interface)
    × (number order 2 body ≡ interface.link)
    × (number order 4 (drop 4 body) ≡ interface.snaplen)
    × (options_of order (drop 8 body)
    ≡ Ok (9, code_of interface.resolution ∷ []) ∷ offset_items order (cast_unsigned w64 interface.offset)))

-- What is written for a packet, whose body gives the same values.
abbrev pub PacketAgain : Type 0
PacketAgain =
    (order : Order) (interface units original : ℕ) (bytes : List ℕ)
    → interface < 2 ^ 32 → units < 2 ^ 64 → original < 2 ^ 32 → length bytes ≤ 262144
    → (let body = packet_body order interface units original bytes in
    IsReadAs (Some order) (record { order = order; kind = enhanced_kind; body = body })
    (packet_bytes order interface units original bytes)
    × (number order 4 body ≡ interface)
    × (number order 4 (drop 4 body) * 2 ^ 32 + number order 4 (drop 8 body) ≡ units)
    × (number order 4 (drop 12 body) ≡ length bytes)
    × (number order 4 (drop 16 body) ≡ original)
    × (take (length bytes) (drop 20 body) ≡ bytes))
