-- What comes next of a feed, as the items to come have it.
use Rattle.std.proofs.Common.{arith, ◌≡◌, IsTrue, true, Some, None, Ok, Err}
use Rattle.cap_bytes.specs.declared.faults.Fault.{Fault}
use Rattle.cap_bytes.specs.declared.faults.Fault.TheVariants.{Refused}
use Rattle.cap_bytes.specs.declared.faults.Refusal.{Refusal}
use Rattle.cap_source.specs.Feed.{Feed, SameItems, FindsPacket, FindsItem, IsFeed}
use Rattle.cap_source.specs.inner.Walk.{ShowsItem, GivesPacket}
use Rattle.cap_source.specs.declared.feeds.Head.TheVariants as heads
use Rattle.cap_source.specs.declared.packets.Meta.{Meta}

-- a packet that was found is the one that is known
pub gives-packet : (old new : Feed) (meta : Meta) → FindsPacket old (Ok true) new → new.known ≡ Some (heads.Packet meta)
    → GivesPacket old (Ok (Some meta)) new
gives-packet old new meta found known = grind arith

-- what comes next of a feed, by what is known of it
pub shows-packet : (old new : Feed) (meta : Meta) → IsFeed new → IsTrue new.told → new.known ≡ Some (heads.Packet meta)
    → SameItems old new
    → ShowsItem old (Ok (Some meta)) new
shows-packet old new meta law t known same = grind arith

pub shows-refused : (old new : Feed) (r : Refusal) → IsFeed new → IsTrue new.told → new.known ≡ Some (heads.Refused r)
    → SameItems old new
    → ShowsItem old (Err (Refused r)) new
shows-refused old new r law t known same = grind arith

pub shows-end : (old new : Feed) → IsFeed new → IsTrue new.told → new.known ≡ Some heads.End → SameItems old new
    → ShowsItem old (Ok None) new
shows-end old new law t known same = grind arith

pub shows-fault : (old new : Feed) (fault : Fault) → IsFeed new → IsTrue new.told → FindsPacket old (Err fault) new
    → FindsItem old (Err fault) new
    → ShowsItem old (Err fault) new
shows-fault old new (Refused r) law t answer same = shows-refused old new r law t answer.known same
shows-fault old new fault law t answer same = grind arith
