-- What is seen at the front of the bytes that a window shows.
use Rattle.std.specs.Prelude.{◌≡◌, ◌&&◌, not, true, false, Bool, ◌≤◌, ◌<◌, ◌+◌, ◌^◌, ℕ, List, length, drop, IsTrue}
use Rattle.std.specs.Prelude.{Option, Some, None, is_some, IsSome, Result, Ok, Err, ⊤}
use Rattle.cap_bytes.specs.inner.Parsing.{FailsBy, LooksFor}
use Rattle.cap_bytes.specs.inner.Window.{WindowState, WindowGoes, WindowShows, coming, read_to}
use Rattle.cap_bytes.specs.declared.faults.Fault.{Fault}
use Rattle.cap_bytes.specs.declared.faults.Rule.{Rule}
use Rattle.cap_bytes.specs.declared.faults.Rule.TheVariants.{Cut}
use Rattle.cap_bytes.specs.declared.faults.Tail.{Tail}
use Rattle.cap_bytes.specs.declared.numbers.Order.{Order}
use Rattle.cap_bytes.specs.declared.stops.Stop.{Stop}
use Rattle.cap_blocks.specs.Grammar.{is_known_kind, is_total}
use Rattle.cap_blocks.specs.Split.{kind_at, total_at, is_section, is_ordered, own_order, block_order_at}
use Rattle.cap_blocks.specs.Split.{block_header_fault}
use Rattle.cap_blocks.specs.Split.{body_fault, block_fault, block_at, block_stop_at, LacksRoom}
use Rattle.cap_blocks.specs.declared.blocks.Block.{Block}

-- the order in which the order magic of a section header reads, if it does in either
abbrev pub FindsOwnOrder : List ℕ → Option Order → Type 0
FindsOwnOrder bytes (Some order) = (order ≡ own_order bytes) × (is_ordered (own_order bytes) bytes ≡ true)
FindsOwnOrder bytes None = is_ordered (own_order bytes) bytes ≡ false

-- the order of the block at the front, unless it is a section header whose order magic doesn't read in it
abbrev pub FindsOrder : Option Order → List ℕ → Option Order → Type 0
FindsOrder section bytes (Some order) = (order ≡ block_order_at section bytes)
    × ((is_section bytes && not (is_ordered (block_order_at section bytes) bytes)) ≡ false)
FindsOrder section bytes None = (is_section bytes && not (is_ordered (block_order_at section bytes) bytes)) ≡ true

-- the block at the front of some bytes, or the first condition that its first 12 bytes meet
abbrev pub ParsesBlockHeader : Option Order → ℕ → List ℕ → Result Block Rule → Type 0
ParsesBlockHeader section offset bytes (Ok block) = (block_header_fault section offset bytes ≡ None)
    × (block ≡ block_at section offset bytes)
ParsesBlockHeader section offset bytes (Err rule) = block_header_fault section offset bytes ≡ Some rule

-- The header of a block stands at the front of some bytes.
pub record IsHeader (block : Block) (offset : ℕ) (bytes : List ℕ) : Type 0 where
  pub head : 12 ≤ length bytes
  pub offset_is : block.offset ≡ offset
  pub kind : block.kind ≡ kind_at block.order bytes
  pub total : block.total ≡ total_at block.order bytes
  pub allowed : IsTrue (is_total block.kind block.total)
  pub least : 12 ≤ block.total
  pub limit : offset + block.total ≤ 2 ^ 40

-- what every answer of every look keeps
pub record ParsingStays (old new : WindowState) : Type 0 where
  pub file : new.file ≡ old.file
  pub offset : old.offset ≤ new.offset
  pub limit : old.offset ≤ 2 ^ 40 → new.offset ≤ 2 ^ 40
  pub told : IsTrue old.told → IsTrue new.told
  pub most : new.most ≡ old.most
  pub can_fail : IsTrue new.can_fail → IsTrue old.can_fail
  pub room : old.room ≤ new.room
  pub held : new.held ≤ 524288

-- The header of a block is shown.
pub record SeesBlockHeader (section : Option Order) (block : Block) (old new : WindowState) : Type 0 where
  pub shows : WindowShows old new
  pub header : IsHeader block old.offset new.shown
  pub room : 12 ≤ new.room
  pub none : IsTrue old.told → block_header_fault section old.offset (coming old) ≡ None
  pub block_is : IsTrue old.told → block ≡ block_at section old.offset (coming old)

-- what a look at the header returns
abbrev pub LooksAtHeader : Option Order → Tail → WindowState → Result (Result Block Stop) Fault → WindowState → Type 0
LooksAtHeader section tail old result new =
    LooksFor (λ block. SeesBlockHeader section block old new) (is_some section)
    (block_fault section old.offset (coming old)) 12 ⊤ tail old result new

-- A block of a known kind is shown whole, and one of another kind is passed.
abbrev pub LeavesBlock : Bool → ℕ → WindowState → WindowState → Type 0
LeavesBlock true total old new =
    (new.offset ≡ old.offset) × (total ≤ length new.shown) × (IsTrue old.told → coming new ≡ coming old)
LeavesBlock false total old new =
    (new.offset ≡ old.offset + total) × (IsTrue old.told → coming new ≡ drop total (coming old))

-- The body of a block is looked at, with the total length after it: they meet that condition, if one. If they are cut,
-- all that is left was read.
pub record SeesBody (block : Block) (fault : Option Rule) (old new : WindowState) : Type 0 where
  pub goes : WindowGoes old new
  pub told_fault : IsTrue old.told → body_fault block.order (coming old) ≡ fault
  pub all_read : IsTrue old.told → fault ≡ Some Cut → read_to new ≡ old.offset + length (coming old)
  pub left : fault ≡ None → LeavesBlock (is_known_kind block.kind) block.total old new

-- what a look at the body of a block returns
abbrev pub LooksAtBody : Block → WindowState → Result (Option Rule) Fault → WindowState → Type 0
LooksAtBody block old (Ok fault) new = SeesBody block fault old new
LooksAtBody block old (Err fault) new = FailsBy 524288 ((is_known_kind block.kind ≡ true)
    × (old.room < block.total)) old fault new

-- the same of a block that is skipped, if no fault but that of a read comes, which may fail after the block's
-- beginning, before all of it came
abbrev pub SkipsBody : Block → WindowState → Result (Option Rule) Fault → WindowState → Type 0
SkipsBody block old (Ok fault) new = SeesBody block fault old new
SkipsBody block old (Err fault) new =
    IsSome new.broken × IsTrue new.failed × IsTrue old.can_fail × (read_to new < old.offset + block.total)

-- A block is there.
pub record SeesBlock (section : Option Order) (tail : Tail) (block : Block) (old new : WindowState) : Type 0 where
  pub goes : WindowGoes old new
  pub offset : block.offset ≡ old.offset
  pub allowed : IsTrue (is_total block.kind block.total)
  pub least : 12 ≤ block.total
  pub limit : old.offset + block.total ≤ 2 ^ 40
  pub left : LeavesBlock (is_known_kind block.kind) block.total old new
  pub none : IsTrue old.told → block_stop_at section tail old.file old.offset (coming old) ≡ None
  pub block_is : IsTrue old.told → block ≡ block_at section old.offset (coming old)

-- what a look for a block returns
abbrev pub LooksForBlock : Option Order → Tail → WindowState → Result (Result Block Stop) Fault → WindowState → Type 0
LooksForBlock section tail old result new =
    LooksFor (λ block. SeesBlock section tail block old new) (is_some section)
    (block_fault section old.offset (coming old))
    524288 (LacksRoom section old.offset (coming old) old.room) tail old result new
