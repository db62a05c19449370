-- What a list of packets that comes one by one is at one moment, and what its calls do.
use Rattle.std.specs.Prelude.{◌≡◌, ◌==◌, ◌*◌, ◌^◌, ◌≤◌, ◌<◌, ℕ, List, [], ◌∷◌, length, drop, Bool, true, false, IsTrue}
use Rattle.std.specs.Prelude.{Option, Some, None, IfSome, Result, Ok, Err, ⊤, ◌⊎◌}
use Rattle.std.specs.List.{list_any}
use Rattle.cap_bytes.specs.declared.faults.Fault.{Fault}
use Rattle.cap_bytes.specs.declared.faults.Fault.TheVariants.{Refused, Read, Write, Memory}
use Rattle.cap_bytes.specs.declared.faults.Refusal.{Refusal}
use Rattle.cap_source.specs.declared.feeds.FileEnd.{FileEnd}
use Rattle.cap_source.specs.declared.feeds.FeedHeld.{FeedHeld}
use Rattle.cap_source.specs.declared.feeds.Head.{Head}
use Rattle.cap_source.specs.declared.feeds.Head.TheVariants as heads
use Rattle.cap_source.specs.declared.packets.Meta.{Meta}

-- what comes of a file, or of several: packets with their captured bytes, and a refusal if one ends them
pub data Item : Type 0 where
  packet : Meta → List ℕ → Item
  refused : Refusal → Item

-- the refusal that ends some items, if one does
unfoldable pub refusal_of : List Item → Option Refusal
refusal_of [] = None
refusal_of (packet meta frame ∷ items) = refusal_of items
refusal_of (refused refusal ∷ items) = Some refusal

-- A feed of the packets of the files of those numbers. `items` are those to come, if the devices tell their bytes, and
-- `endings` says how each file ends, if no refusal comes before. `known` is what comes next, once that was asked for,
-- and `frame` are the captured bytes of a packet that comes next. `broken` is the fault of a read that failed, once
-- `head` has returned it. No packet to come of a file begins before its place of `places`, and at most `left` packets
-- are to come, whatever the devices do. `can_fail` says of each file whether its device can fail.
pub record Feed : Type 0 where
  pub files : List ℕ
  pub told : Bool
  pub items : List Item
  pub endings : ℕ → FileEnd
  pub known : Option Head
  pub frame : List ℕ
  pub broken : Option Fault
  pub places : ℕ → ℕ
  pub left : ℕ
  pub can_fail : ℕ → Bool
  pub held : FeedHeld

-- the file is one of those
abbrev pub HasFile : List ℕ → ℕ → Type 0
HasFile files file = IsTrue (list_any (λ f. f == file) files)

-- What comes next is known, and is a packet.
abbrev pub IsPacket : Option Head → Type 0
IsPacket None = ⊥
IsPacket (Some (heads.Packet meta)) = ⊤
IsPacket (Some (heads.Refused refusal)) = ⊥
IsPacket (Some heads.End) = ⊥

-- What comes next is known, and nothing comes after it: a refusal, or the end.
abbrev pub IsLast : Option Head → Type 0
IsLast None = ⊥
IsLast (Some (heads.Packet meta)) = ⊥
IsLast (Some (heads.Refused refusal)) = ⊤
IsLast (Some heads.End) = ⊤

-- If what comes next is known to be a packet, that is true of it.
abbrev pub IfPacket : Option Head → (Meta → Type 0) → Type 0
IfPacket None Holds = ⊤
IfPacket (Some (heads.Packet meta)) Holds = Holds meta
IfPacket (Some (heads.Refused refusal)) Holds = ⊤
IfPacket (Some heads.End) Holds = ⊤

-- what every answer of every call keeps
pub record FeedKeeps (old new : Feed) : Type 0 where
  pub files : new.files ≡ old.files
  pub told : IsTrue old.told → IsTrue new.told
  pub can_fail : (file : ℕ) → IsTrue (new.can_fail file) → IsTrue (old.can_fail file)
  pub places : (file : ℕ) → old.places file ≤ new.places file
  pub left : new.left ≤ old.left

-- the items to come, and how the files end, are the same
pub record SameItems (old new : Feed) : Type 0 where
  pub items : new.items ≡ old.items
  pub endings : (file : ℕ) → new.endings file ≡ old.endings file

-- No read has failed, and none does.
pub record FeedGoes (old new : Feed) : Type 0 where
  pub before : old.broken ≡ None
  pub after : new.broken ≡ None
  pub failed : new.held.failed ≡ old.held.failed

-- What comes next is known now. If it was known before, nothing has changed.
pub record Knows (old : Feed) (head : Head) (new : Feed) : Type 0 where
  pub known : new.known ≡ Some head
  pub again : IfSome old.known (λ first. (head ≡ first) × (new ≡ old))
  pub goes : FeedGoes old new

-- A read of one of the files fails in this call, or failed in an earlier one: then the file and the offset
-- are the same. The offset is where the header, the record or the block begins that was being read, which
-- is the file's place from then on.
pub record FeedBreaks (old : Feed) (file offset : ℕ) (new : Feed) : Type 0 where
  pub before : old.known ≡ None
  pub after : new.known ≡ None
  pub of : HasFile old.files file
  pub again : IfSome old.broken (λ first. Read file offset ≡ first)
  pub broken : new.broken ≡ Some (Read file offset)
  pub place : offset ≡ new.places file
  pub failed : IsTrue new.held.failed
  pub can_fail : IsTrue (old.can_fail file)

-- A growth was refused.
pub record FeedWaits (old new : Feed) : Type 0 where
  pub before : old.known ≡ None
  pub after : new.known ≡ None
  pub goes : FeedGoes old new

-- what `head` returns
abbrev pub GivesHead : Feed → Result Head Fault → Feed → Type 0
GivesHead old (Ok head) new = Knows old head new
GivesHead old (Err (Refused refusal)) new = ⊥
GivesHead old (Err (Read file offset)) new = FeedBreaks old file offset new
GivesHead old (Err Write) new = ⊥
GivesHead old (Err Memory) new = FeedWaits old new

-- what it does to the items to come
abbrev pub KeepsItems : Feed → Result Head Fault → Feed → Type 0
KeepsItems old (Ok head) new = SameItems old new
KeepsItems old (Err (Refused refusal)) new = ⊥
KeepsItems old (Err (Read file offset)) new = ⊤
KeepsItems old (Err Write) new = ⊥
KeepsItems old (Err Memory) new = SameItems old new

-- what `peek` returns: whether a packet comes next, or a refusal, which is returned as a fault
abbrev pub FindsPacket : Feed → Result Bool Fault → Feed → Type 0
FindsPacket old (Ok true) new = (meta : Meta) × Knows old (heads.Packet meta) new
FindsPacket old (Ok false) new = Knows old heads.End new
FindsPacket old (Err (Refused refusal)) new = Knows old (heads.Refused refusal) new
FindsPacket old (Err (Read file offset)) new = FeedBreaks old file offset new
FindsPacket old (Err Write) new = ⊥
FindsPacket old (Err Memory) new = FeedWaits old new

-- what it does to the items to come
abbrev pub FindsItem : Feed → Result Bool Fault → Feed → Type 0
FindsItem old (Ok found) new = SameItems old new
FindsItem old (Err (Refused refusal)) new = SameItems old new
FindsItem old (Err (Read file offset)) new = ⊤
FindsItem old (Err Write) new = ⊥
FindsItem old (Err Memory) new = SameItems old new

-- what `try_peek_buffered` returns: whether a packet comes next, and is known. If not, nothing is said of what comes
-- next, but it may be known now.
abbrev pub ShowsPacket : Feed → Bool → Feed → Type 0
ShowsPacket old true new = (meta : Meta) × Knows old (heads.Packet meta) new
ShowsPacket old false new = (new ≡ old) ⊎ ((head : Head) × Knows old head new)

-- The packet that came next is dropped: the packets of its file that are to come begin after its offset.
pub record FeedPasses (old new : Feed) : Type 0 where
  pub known : new.known ≡ None
  pub broken : new.broken ≡ None
  pub held : new.held ≡ old.held
  pub left : new.left < old.left
  pub place : IfPacket old.known (λ meta. meta.offset < new.places meta.file)
  pub items : IsTrue old.told → new.items ≡ drop 1 old.items
  pub endings : IsTrue old.told → (file : ℕ) → new.endings file ≡ old.endings file

-- What comes next is the first of the items to come, and a refusal is the only one.
abbrev pub Leads : Option Head → List ℕ → List Item → Type 0
Leads None frame items = ⊤
Leads (Some (heads.Packet meta)) frame items = items ≡ packet meta frame ∷ drop 1 items
Leads (Some (heads.Refused refusal)) frame items = items ≡ refused refusal ∷ []
Leads (Some heads.End) frame items = items ≡ []

-- what is true of every packet that comes next
pub record IsPacketOf (feed : Feed) (meta : Meta) : Type 0 where
  pub file : HasFile feed.files meta.file
  pub captured : length feed.frame ≡ meta.captured
  pub limit : meta.captured ≤ 262144
  pub place : feed.places meta.file ≤ meta.offset
  pub offset : meta.offset < 2 ^ 40
  pub left : 1 ≤ feed.left

-- If what comes next is known to be a refusal, it is of one of the files.
abbrev pub IsRefusedOf : List ℕ → Option Head → Type 0
IsRefusedOf files None = ⊤
IsRefusedOf files (Some (heads.Packet meta)) = ⊤
IsRefusedOf files (Some (heads.Refused refusal)) = HasFile files refusal.file
IsRefusedOf files (Some heads.End) = ⊤

-- what is always true of a feed
pub record IsFeed (feed : Feed) : Type 0 where
  pub leads : IsTrue feed.told → Leads feed.known feed.frame feed.items
  pub packet : IfPacket feed.known (λ meta. IsPacketOf feed meta)
  pub refusal : IsRefusedOf feed.files feed.known
  pub whole : IfSome feed.known (λ head. feed.broken ≡ None)
  pub most : feed.left ≤ length feed.files * 2 ^ 40
  pub window : feed.held.window ≤ 524288
  pub interfaces : feed.held.interfaces ≤ 1024
