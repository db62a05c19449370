-- What a call returns that goes through the blocks of a file, and what it leaves.
use Rattle.std.specs.Prelude.{◌≡◌, ◌≤◌, ℕ, IsTrue, Some, None, IfSome, IfNone, IsSome, Result, Ok, Err}
use Rattle.cap_bytes.specs.inner.Reader.{ReaderState}
use Rattle.cap_bytes.specs.declared.faults.Fault.{Fault}
use Rattle.cap_bytes.specs.declared.faults.Fault.TheVariants.{Refused, Read, Write, Memory}
use Rattle.cap_bytes.specs.declared.numbers.Order.{Order}
use Rattle.cap_bytes.specs.declared.stops.Stop.TheVariants as stops

-- No read has failed meanwhile, whether one had failed before or not.
pub record BlockWalkLasts (old new : ReaderState Order) : Type 0 where
  pub broken : new.broken ≡ old.broken
  pub failed : new.failed ≡ old.failed

-- A read failed on the way, or had failed before the call: then the file and the offset are the same. The reader tells
-- that offset from then on.
pub record BlockWalkFails (old : ReaderState Order) (file offset : ℕ) (new : ReaderState Order) : Type 0 where
  pub of : file ≡ old.file
  pub again : IfSome old.broken (λ first. offset ≡ first)
  pub first : IfNone old.broken (old.offset ≤ offset)
  pub broken : new.broken ≡ Some offset
  pub failed : IsTrue new.failed
  pub can_fail : IsTrue old.can_fail

-- It goes to the end if it returns no fault. A failed read is returned as such, and no other fault is returned for it;
-- a refusal is what ended the blocks, and a growth is refused only before their end.
abbrev pub WalksBlocks : {A : Type 0} → ReaderState Order → Result A Fault → ReaderState Order → Type 0
WalksBlocks old (Ok _) new = IsSome new.stop × BlockWalkLasts old new
WalksBlocks old (Err (Refused refusal)) new = (new.stop ≡ Some (stops.Refused refusal)) × BlockWalkLasts old new
WalksBlocks old (Err (Read file offset)) new = BlockWalkFails old file offset new
WalksBlocks old (Err Write) new = BlockWalkLasts old new
WalksBlocks old (Err Memory) new = (new.stop ≡ None) × BlockWalkLasts old new
