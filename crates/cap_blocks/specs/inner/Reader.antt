-- What a reader of a pcapng file is at one moment, and what its calls do.
use Rattle.std.specs.Prelude.{◌≡◌, ◌+◌, ◌^◌, ◌≤◌, ℕ, List, ◌∷◌, length, Bool, true, false, IsTrue, Option, Some, None}
use Rattle.std.specs.Prelude.{option_map, is_some, IfSome, Result}
use Rattle.cap_bytes.specs.Items.{PieceItem, given, items_by_stop}
use Rattle.cap_bytes.specs.Items as items
use Rattle.cap_bytes.specs.inner.Reach.{Reaches}
use Rattle.cap_bytes.specs.inner.Reader.{ReaderState, Gives}
use Rattle.cap_bytes.specs.inner.Reader as readers
use Rattle.cap_bytes.specs.inner.Window.{WindowState}
use Rattle.cap_bytes.specs.declared.faults.Fault.{Fault}
use Rattle.cap_bytes.specs.declared.faults.Tail.{Tail}
use Rattle.cap_bytes.specs.declared.numbers.Order.{Order}
use Rattle.cap_bytes.specs.declared.stops.Stop.{Stop}
use Rattle.cap_blocks.specs.Grammar.{is_known_kind, is_total}
use Rattle.cap_blocks.specs.Split.{block_at, block_fault, body_in, block_stop_at, wanted_at, LacksRoom}
use Rattle.cap_blocks.specs.Split.{block_items_from}
use Rattle.cap_blocks.specs.declared.blocks.Block.{Block}

-- the items to come
abbrev pub blocks_to_come : ReaderState Order → List (PieceItem Block)
blocks_to_come reader = items_by_stop reader.stop
    (block_items_from reader.known reader.tail reader.file reader.offset reader.coming)

-- how many bytes a block takes
abbrev pub block_size : Block → ℕ
block_size block = block.total

-- A block is given, whose bytes stand at the front of the bytes to come. Its body is lent if its kind
-- is known.
pub record GivesBlock (old : ReaderState Order) (block : Block) (new : ReaderState Order) : Type 0 where
  pub gives : Gives (Some block.order) block.total old new
  pub offset : block.offset ≡ old.offset
  pub allowed : IsTrue (is_total block.kind block.total)
  pub least : 12 ≤ block.total
  pub known : is_some new.lent ≡ is_known_kind block.kind
  pub size : IfSome new.lent (λ body. length body + 12 ≡ block.total)
  pub none : IsTrue old.told → block_stop_at old.known old.tail old.file old.offset old.coming ≡ None
  pub block_is : IsTrue old.told → block ≡ block_at old.known old.offset old.coming
  pub body_is : IsTrue old.told → IfSome new.lent (λ body. body ≡ body_in block.total old.coming)

-- what `next_block` returns
abbrev pub GivesNextBlock : ReaderState Order → Result (Option Block) Fault → ReaderState Order → Type 0
GivesNextBlock old result new =
    readers.GivesNextPiece (λ block. GivesBlock old block new) (is_some old.known)
    (block_fault old.known old.offset old.coming)
    524288 (LacksRoom old.known old.offset old.coming old.room) old result new

-- how far it reads
abbrev pub ReachesBlock : ReaderState Order → Result (Option Block) Fault → ReaderState Order → Type 0
ReachesBlock old result new =
    Reaches (option_map block_size) (wanted_at old.known old.offset old.coming) (readers.position old) result new.read

-- what it does to the items to come
abbrev pub TakesBlock : ReaderState Order → Result (Option Block) Fault → ReaderState Order → Type 0
TakesBlock old result new =
    items.TakesPiece (λ block. blocks_to_come old ≡ given block (body_in block.total old.coming) ∷ blocks_to_come new)
    (blocks_to_come old) result (blocks_to_come new)

-- how many bytes the block takes that was given last and that the window still shows
abbrev pub shown_block_size : Option ℕ → ℕ
shown_block_size None = 0
shown_block_size (Some total) = total

-- its body
abbrev pub body_of : Option ℕ → List ℕ → Option (List ℕ)
body_of None shown = None
body_of (Some total) shown = Some (body_in total shown)

-- how many bytes the window shows of a block that is given, whether its kind is known
abbrev pub shown_size : Bool → ℕ → Option ℕ
shown_size true total = Some total
shown_size false total = None

-- a reader by the window over its file, its tail, the section's order, the total length of the block that
-- was given last and that the window still shows, and what ended the blocks
abbrev pub block_reader_state : WindowState → Tail → Option Order → Option ℕ → Option Stop → ReaderState Order
block_reader_state window tail section shown stop = readers.reader_state window tail section (shown_block_size shown)
    (body_of shown window.shown) stop

-- what a reader's fields always meet
pub record IsSoundBlockReader (given : Option ℕ) (shown offset held : ℕ) : Type 0 where
  pub least : IfSome given (λ total. 12 ≤ total)
  pub within : shown_block_size given ≤ shown
  pub limit : offset + shown_block_size given ≤ 2 ^ 40
  pub held_limit : held ≤ 524288
