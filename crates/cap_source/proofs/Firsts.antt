-- What asking for what comes next tells of the file as a feed, and of its first interface.
use Rattle.std.proofs.Common.{arith, ◌≡◌, Option, Some, Result, Ok, Err, IsTrue}
use Rattle.std.specs.Bool.{⊤}
use Rattle.cap_bytes.specs.declared.faults.Fault.{Fault}
use Rattle.cap_source.specs.Feed.{Knows, SameItems, FeedKeeps, GivesHead, KeepsItems, FindsPacket, FindsItem}
use Rattle.cap_source.specs.declared.feeds.Head.{Head}
use Rattle.cap_source.specs.Items.{SectionProgress}
use Rattle.cap_source.specs.inner.FileState.{FileState, FileKeeps, file_feed, head_of, first_by, is_unbroken, LearnsOr}
use Rattle.cap_source.specs.inner.FileState.{LearnsNext}
use Rattle.cap_source.specs.inner.Readers.{reader_file_state, is_there}
use Rattle.cap_source.specs.declared.readers.Peeked.{Peeked}
use Rattle.cap_source.specs.declared.readers.Reader.{Reader}

pub knows : (old new : FileState) (known after : Option Peeked) (n : Peeked) → IsTrue (is_unbroken known old.broken)
    → after ≡ Some n → LearnsOr old known n new
    → Knows (file_feed old known) (head_of n) (file_feed new after)
knows old new known after n whole is h = grind arith

-- the first interface that was read is that of the file
pub first_told : {R : Type 0} (old : FileState) (reader : Reader R) (p : SectionProgress) (known after : Option Peeked)
    (n : Peeked) → IsTrue (is_there reader)
    → after ≡ Some n → LearnsOr old known n (reader_file_state reader p) → IsTrue old.told
    → (reader_file_state reader p).noted ≡ first_by known old
first_told old reader p known after n there is h t = grind arith

-- the items to come stay the same, and so does the first interface
pub first_kept : (old new : FileState) (known after : Option Peeked) (n : Peeked) → after ≡ Some n
    → LearnsOr old known n new → IsTrue old.told
    → SameItems (file_feed old known) (file_feed new after) × (first_by after new ≡ first_by known old)
first_kept old new known after n is h t = grind arith

-- each clause of `head` and of `peek`, by what `learn` answered: what comes next is known
pub head_told : (old new : FileState) (known after : Option Peeked) (n : Peeked) (head : Head)
    → IsTrue (is_unbroken known old.broken)
    → LearnsNext {A = ⊤} old known (Ok tt) new after → Some n ≡ after → head_of n ≡ head
    → Knows (file_feed old known) head (file_feed new after)
head_told old new known after n head whole h is e = grind (arith, knows)

pub items_told : (old new : FileState) (known after : Option Peeked)
    → LearnsNext {A = ⊤} old known (Ok tt) new after → IsTrue old.told
    → SameItems (file_feed old known) (file_feed new after)
items_told old new known after h t = (first_kept old new known after h.0 h.1 h.2 t).0

-- or a fault came
pub fault_told : (old new : FileState) (known after : Option Peeked) (fault : Fault) → FileKeeps old new
    → LearnsNext {A = ⊤} old known (Err fault) new after
    → GivesHead (file_feed old known) (Err fault) (file_feed new after)
fault_told old new known after fault k h = grind arith

pub fault_items : (old new : FileState) (known after : Option Peeked) (fault : Fault)
    → LearnsNext {A = ⊤} old known (Err fault) new after → IsTrue old.told
    → KeepsItems (file_feed old known) (Err fault) (file_feed new after)
fault_items old new known after fault h t = grind arith

pub fault_found : (old new : FileState) (known after : Option Peeked) (fault : Fault) → FileKeeps old new
    → LearnsNext {A = ⊤} old known (Err fault) new after
    → FindsPacket (file_feed old known) (Err fault) (file_feed new after)
fault_found old new known after fault k h = grind arith

pub fault_item : (old new : FileState) (known after : Option Peeked) (fault : Fault)
    → LearnsNext {A = ⊤} old known (Err fault) new after → IsTrue old.told
    → FindsItem (file_feed old known) (Err fault) (file_feed new after)
fault_item old new known after fault h t = grind arith

-- what every answer keeps
pub keeps_told : {A : Type 0} (old new : FileState) (known after : Option Peeked) (result : Result A Fault)
    → FileKeeps old new
    → LearnsNext old known result new after → FeedKeeps (file_feed old known) (file_feed new after)
keeps_told old new known after result k h = grind arith
