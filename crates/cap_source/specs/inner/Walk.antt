-- What a call for the next packet of a feed returns, and a call that goes through all of them.
use Rattle.std.specs.Prelude.{◌≡◌, ℕ, [], ◌∷◌, drop, IsTrue, Option, Some, None, IfSome, Result, Ok, Err, ⊤}
use Rattle.cap_bytes.specs.declared.faults.Fault.{Fault}
use Rattle.cap_bytes.specs.declared.faults.Fault.TheVariants.{Refused, Read, Write, Memory}
use Rattle.cap_source.specs.Feed.{Feed, Knows, FeedBreaks, FeedWaits, FeedGoes, HasFile, SameItems, packet, refused}
use Rattle.cap_source.specs.declared.feeds.Head.TheVariants as heads
use Rattle.cap_source.specs.declared.packets.Meta.{Meta}

-- A packet comes next, or the end, or a refusal, which is returned as a fault.
abbrev pub GivesPacket : Feed → Result (Option Meta) Fault → Feed → Type 0
GivesPacket old (Ok (Some meta)) new = Knows old (heads.Packet meta) new
GivesPacket old (Ok None) new = Knows old heads.End new
GivesPacket old (Err (Refused refusal)) new = Knows old (heads.Refused refusal) new
GivesPacket old (Err (Read file offset)) new = FeedBreaks old file offset new
GivesPacket old (Err Write) new = ⊥
GivesPacket old (Err Memory) new = FeedWaits old new

-- what that says of the items to come, which stay the same
abbrev pub ShowsItem : Feed → Result (Option Meta) Fault → Feed → Type 0
ShowsItem old (Ok (Some meta)) new = SameItems old new × (old.items ≡ packet meta new.frame ∷ drop 1 old.items)
ShowsItem old (Ok None) new = SameItems old new × (old.items ≡ [])
ShowsItem old (Err (Refused refusal)) new = SameItems old new × (old.items ≡ refused refusal ∷ [])
ShowsItem old (Err (Read file offset)) new = ⊤
ShowsItem old (Err Write) new = ⊥
ShowsItem old (Err Memory) new = SameItems old new

-- How the files end stays told.
abbrev pub SameEndings : Feed → Feed → Type 0
SameEndings old new = (file : ℕ) → new.endings file ≡ old.endings file

-- No read has failed meanwhile, whether one had failed before or not.
pub record WalkLasts (old new : Feed) : Type 0 where
  pub broken : new.broken ≡ old.broken
  pub failed : new.held.failed ≡ old.held.failed

-- A read of one of the files failed on the way, or had failed before the call: then the file and the offset are the
-- same. The offset is the file's place from then on.
pub record WalkFails (old : Feed) (file offset : ℕ) (new : Feed) : Type 0 where
  pub of : HasFile old.files file
  pub again : IfSome old.broken (λ first. Read file offset ≡ first)
  pub after : new.known ≡ None
  pub broken : new.broken ≡ Some (Read file offset)
  pub place : offset ≡ new.places file
  pub failed : IsTrue new.held.failed
  pub can_fail : IsTrue (old.can_fail file)

-- A call goes through a feed, to the end if it returns no fault. A failed read is returned as such, and no other fault
-- is returned for it.
abbrev pub Walks : {A : Type 0} → Feed → Result A Fault → Feed → Type 0
Walks old (Ok _) new = (new.known ≡ Some heads.End) × FeedGoes old new
Walks old (Err (Refused refusal)) new = FeedGoes old new
Walks old (Err (Read file offset)) new = WalkFails old file offset new
Walks old (Err Write) new = WalkLasts old new
Walks old (Err Memory) new = WalkLasts old new
