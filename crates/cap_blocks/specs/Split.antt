-- How a file splits into its blocks and a rest, and what the rest is refused by.
use Rattle.std.specs.Prelude.{◌≡◌, ◌≢◌, ◌==◌, ◌&&◌, ◌⊎◌, not, ℕ, ◌+◌, ◌-◌, ◌^◌, ◌≤◌, ◌<◌, nat_lt, max, if◌then◌else◌}
use Rattle.std.specs.Prelude.{Bool, true, List, [], ◌∷◌, length, take, drop, slice_index, Option, Some, None, is_some}
use Rattle.cap_bytes.specs.Items.{stop_where, PieceItem, PieceFormat, piece_items}
use Rattle.cap_bytes.specs.Number.{number}
use Rattle.cap_bytes.specs.declared.faults.Rule.{Rule}
use Rattle.cap_bytes.specs.declared.faults.Rule.TheVariants.{Magic, Version, Cut, BlockLength, BlockTrailer, OrderMagic}
use Rattle.cap_bytes.specs.declared.faults.Rule.TheVariants.{FileLimit}
use Rattle.cap_bytes.specs.declared.faults.Tail.{Tail}
use Rattle.cap_bytes.specs.declared.numbers.Order.{Order}
use Rattle.cap_bytes.specs.declared.numbers.Order.TheVariants.{Big, Little}
use Rattle.cap_bytes.specs.declared.stops.Stop.{Stop}
use Rattle.cap_blocks.specs.Grammar.{section_kind, order_magic, is_known_kind, is_total, is_section_version}
use Rattle.cap_blocks.specs.Grammar.{SpellsBlock}
use Rattle.cap_blocks.specs.declared.blocks.Block.{Block}

-- the kind and the total length of the block at the front
abbrev pub kind_at : Order → List ℕ → ℕ
kind_at order bytes = number order 4 bytes

abbrev pub total_at : Order → List ℕ → ℕ
total_at order bytes = number order 4 (drop 4 bytes)

-- whether the bytes begin with the kind of a section header, which reads the same in both orders
abbrev pub is_section : List ℕ → Bool
is_section bytes = number Big 4 bytes == section_kind

-- whether the order magic of a section header reads in that order
abbrev pub is_ordered : Order → List ℕ → Bool
is_ordered order bytes = number order 4 (drop 8 bytes) == order_magic

-- the order in which it reads
abbrev pub own_order : List ℕ → Order
own_order bytes = if is_ordered Big bytes then Big else Little

-- The order of the block at the front: a section header tells its own, and every other block has that of
-- its section. Before the first section header there is no section.
abbrev pub block_order_at : Option Order → List ℕ → Order
block_order_at None bytes = own_order bytes
block_order_at (Some section) bytes = if is_section bytes then own_order bytes else section

-- the first of two conditions that is met, if one is
abbrev pub first_of_rules : Option Rule → Option Rule → Option Rule
first_of_rules (Some rule) other = Some rule
first_of_rules None other = other

-- What the first block of a file is refused by before it is looked at as a block: it is a section header.
unfoldable pub first_fault : Option Order → List ℕ → Option Rule
first_fault (Some section) bytes = None
first_fault None bytes =
    if nat_lt (length bytes) 4 then Some Cut else
    if is_section bytes then None else Some Magic

-- What the fields of a block's header are refused by; the block begins at `offset`.
unfoldable pub fields_fault : Order → ℕ → List ℕ → Option Rule
fields_fault order offset bytes =
    if nat_lt (length bytes) 12 then Some Cut else
    if is_section bytes && not (is_ordered order bytes) then Some OrderMagic else
    if not (is_total (kind_at order bytes) (total_at order bytes)) then Some BlockLength else
    if nat_lt (2 ^ 40) (offset + total_at order bytes) then Some FileLimit else None

-- What the header of a block is refused by: both of these.
abbrev pub block_header_fault : Option Order → ℕ → List ℕ → Option Rule
block_header_fault section offset bytes = first_of_rules (first_fault section bytes)
    (fields_fault (block_order_at section bytes) offset bytes)

-- whether a section header at the front has a version that isn't read
abbrev pub has_other_version : Order → List ℕ → Bool
has_other_version order bytes =
    (kind_at order bytes == section_kind)
    && not (is_section_version (number order 2 (drop 12 bytes)) (number order 2 (drop 14 bytes)))

-- what a block is refused by, the header of which isn't
unfoldable pub body_fault : Order → List ℕ → Option Rule
body_fault order bytes =
    if nat_lt (length bytes) (total_at order bytes) then Some Cut else
    if not (number order 4 (drop (total_at order bytes - 4) bytes) == total_at order bytes) then Some BlockTrailer else
    if has_other_version order bytes then Some Version else None

-- The first condition that some bytes, which begin at `offset`, meet in a block's place, if one does. The
-- order is that of the section that is being read, if one is.
unfoldable pub block_fault : Option Order → ℕ → List ℕ → Option Rule
block_fault section offset bytes = first_of_rules (block_header_fault section offset bytes)
    (body_fault (block_order_at section bytes) bytes)

-- the block at the front of some bytes that meet none of them, and its body
unfoldable pub block_at : Option Order → ℕ → List ℕ → Block
block_at section offset bytes =
    record {
      kind = kind_at (block_order_at section bytes) bytes;
      offset = offset;
      total = total_at (block_order_at section bytes) bytes;
      order = block_order_at section bytes;
    }

-- how many bytes are wanted of the block at the front: all of it, once its first 12 tell how many that are
abbrev pub wanted_at : Option Order → ℕ → List ℕ → ℕ
wanted_at section offset bytes = max 12 (block_at section offset bytes).total

-- There is less room than a look for the block at the front needs: that is 12 bytes, and all of a block of a known
-- kind.
abbrev pub LacksRoom : Option Order → ℕ → List ℕ → ℕ → Type 0
LacksRoom section offset bytes room =
    (room < 12) ⊎ ((is_known_kind (block_at section offset bytes).kind ≡ true)
    × (room < (block_at section offset bytes).total))

-- the body of a block of that total length
abbrev pub body_in : ℕ → List ℕ → List ℕ
body_in total bytes = take (total - 12) (drop 8 bytes)

abbrev pub body_at : Option Order → List ℕ → List ℕ
body_at section bytes = body_in (total_at (block_order_at section bytes) bytes) bytes

-- What ends the blocks at some bytes, if anything does: none are left after a whole block, or a rule is
-- broken. A rest that is cut is never dropped within the first section header.
abbrev pub block_stop_at : Option Order → Tail → ℕ → ℕ → List ℕ → Option Stop
block_stop_at section tail file offset bytes = stop_where (is_some section) tail file offset bytes
    (block_fault section offset bytes)

-- how a file goes on, in a section of that order; before the first, in none
abbrev pub block_format : PieceFormat (Option Order) Block
block_format =
    record {
      stop = block_stop_at;
      piece = block_at;
      lent = body_at;
      size = λ section bytes. total_at (block_order_at section bytes) bytes;
      next = λ section bytes. Some (block_order_at section bytes);
    }

-- The items of some bytes that begin at `offset`, in a section of that order; of a whole file, in none
-- and from 0 on.
abbrev pub block_items_from : Option Order → Tail → ℕ → ℕ → List ℕ → List (PieceItem Block)
block_items_from section tail file offset bytes = piece_items block_format section tail file offset bytes

-- A piece of a file: a block's order, kind and body.
pub record BlockPiece : Type 0 where
  pub order : Order
  pub kind : ℕ
  pub body : List ℕ

abbrev pub piece_size : BlockPiece → ℕ
piece_size piece = 12 + length piece.body

-- The piece may stand there: a file begins with a section header, and every other block has the order of
-- its section.
abbrev pub MayFollow : Option Order → BlockPiece → Type 0
MayFollow None piece = piece.kind ≡ section_kind
MayFollow (Some section) piece = piece.kind ≢ section_kind → piece.order ≡ section

-- The bytes at the front, which begin at `offset`, spell the piece.
pub record BeginsPiece (section : Option Order) (offset : ℕ) (piece : BlockPiece) (bytes : List ℕ) : Type 0 where
  pub follows : MayFollow section piece
  pub spelled : SpellsBlock piece.order piece.kind piece.body (take (piece_size piece) bytes)
  pub limit : offset + piece_size piece ≤ 2 ^ 40

-- Some bytes, which begin at `offset`, are the spellings of these pieces and then the rest, of which no
-- front is a piece.
abbrev pub SplitsBlocks : Option Order → ℕ → List ℕ → List BlockPiece → List ℕ → Type 0
SplitsBlocks section offset bytes [] rest = (bytes ≡ rest)
    × ((piece : BlockPiece) → BeginsPiece section offset piece rest → ⊥)
SplitsBlocks section offset bytes (piece ∷ pieces) rest =
    BeginsPiece section offset piece bytes
    × SplitsBlocks (Some piece.order) (offset + piece_size piece) (drop (piece_size piece) bytes) pieces rest

-- a list of bytes
abbrev pub AreBytes : List ℕ → Type 0
AreBytes bytes = (k : ℕ) → slice_index bytes k < 256
