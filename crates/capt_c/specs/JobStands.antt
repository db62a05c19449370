-- What is always true of a file that a job reads.
use Rattle.std.specs.Prelude.{◌≡◌, ◌+◌, ◌-◌, ◌≤◌, ◌^◌, ℕ, [], ◌∷◌, false, IsTrue, Option, Some, None}
use Rattle.cap_blocks.specs.declared.blocks.Block.{Block}
use Rattle.cap_bytes.specs.inner.Reader.{ReaderState}
use Rattle.cap_bytes.specs.declared.numbers.Order.{Order}
use Rattle.cap_source.specs.Feed.{Feed}

-- Packets of the only file, from that number on. Its bytes are known, and no read of it fails.
pub record ListStands (feed : Feed) (number : ℕ) : Type 0 where
  pub told : IsTrue feed.told
  pub files : feed.files ≡ 1 ∷ []
  pub reads : feed.can_fail 1 ≡ false
  pub place : number + feed.left ≤ 2 ^ 41

-- how many blocks were read and not passed
abbrev pub blocks_read : Option Block → ℕ
blocks_read None = 0
blocks_read (Some block) = 1

-- Blocks of a file, from that number on, of which the first may have been read already. Its bytes are known, and no
-- read of it fails.
pub record BlocksStand (reader : ReaderState Order) (next : Option Block) (number : ℕ) : Type 0 where
  pub told : IsTrue reader.told
  pub reads : reader.can_fail ≡ false
  pub place : number + blocks_read next ≤ reader.offset + 1
  pub limit : reader.offset ≤ 2 ^ 40

-- how many blocks may still come at most
abbrev pub blocks_left : ReaderState Order → Option Block → ℕ
blocks_left reader next = 2 ^ 40 - reader.offset + blocks_read next
