-- What `peek` says of a feed, as a call for the next packet says it: the packet that the feed lends, the end, a fault.
use Rattle.std.proofs.Common.{◌≡◌, Some, None, IsTrue, Ok, Err, true, false, arith}
use Rattle.cap_bytes.specs.declared.faults.Fault.{Fault}
use Rattle.cap_source.specs.Feed.{Feed, SameItems, FindsPacket, FindsItem, IsFeed}
use Rattle.cap_source.specs.inner.Walk.{GivesPacket, ShowsItem}
use Rattle.cap_source.specs.declared.feeds.Head.TheVariants as heads
use Rattle.cap_source.specs.declared.packets.Meta.{Meta}

pub found-packet : (mid shown : Feed) (meta : Meta) → FindsPacket mid (Ok true) shown
    → shown.known ≡ Some (heads.Packet meta) → GivesPacket mid (Ok (Some meta)) shown
found-packet mid shown meta found lent = grind arith

pub found-item : (mid shown : Feed) (meta : Meta) → IsFeed shown → IsTrue shown.told → SameItems mid shown
    → shown.known ≡ Some (heads.Packet meta)
    → ShowsItem mid (Ok (Some meta)) shown
found-item mid shown meta f t same lent = grind arith

pub found-end : (mid shown : Feed) → IsFeed shown → IsTrue shown.told → SameItems mid shown
    → FindsPacket mid (Ok false) shown → ShowsItem mid (Ok None) shown
found-end mid shown f t same found = grind arith

pub found-fault : (fault : Fault) (mid shown : Feed) → IsFeed shown → IsTrue shown.told
    → FindsItem mid (Err fault) shown → FindsPacket mid (Err fault) shown
    → ShowsItem mid (Err fault) shown
found-fault fault mid shown f t items found = grind arith

pub found-no-packet : (fault : Fault) (mid shown : Feed) → FindsPacket mid (Err fault) shown
    → GivesPacket mid (Err fault) shown
found-no-packet fault mid shown found = grind arith
