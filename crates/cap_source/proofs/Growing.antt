-- Where a growth may be refused.
use Rattle.std.proofs.Common.{◌≡◌, Option, Some, None, Err, sym, subst}
use Rattle.cap_bytes.specs.declared.faults.Fault.{Fault}
use Rattle.cap_bytes.specs.declared.faults.Fault.TheVariants.{Refused, Read, Write, Memory}
use Rattle.cap_source.specs.Feed.{Feed, FindsPacket}
use Rattle.cap_source.specs.inner.Growing.{OfMemory, IsAtPacket}
use Rattle.cap_source.specs.inner.Walk.{GivesPacket}
use Rattle.cap_source.specs.declared.feeds.Head.{Head}
use Rattle.cap_source.specs.declared.feeds.Head.TheVariants as heads
use Rattle.cap_source.specs.declared.packets.Meta.{Meta}

-- the call for the next packet answers it
pub memory-asked : (fault : Fault) (mid new : Feed) → GivesPacket mid (Err fault) new
    → OfMemory fault (new.known ≡ None)
memory-asked (Refused refusal) mid new h = tt
memory-asked (Read file offset) mid new h = tt
memory-asked Write mid new h = tt
memory-asked Memory mid new h = h.after

pub memory-found : (fault : Fault) (mid new : Feed) → FindsPacket mid (Err fault) new
    → OfMemory fault (new.known ≡ None)
memory-found (Refused refusal) mid new h = tt
memory-found (Read file offset) mid new h = tt
memory-found Write mid new h = tt
memory-found Memory mid new h = h.after

-- what isn't known, and a packet
pub at-unknown : (known : Option Head) → known ≡ None → IsAtPacket known
at-unknown known is = subst IsAtPacket (sym is) tt

pub at-packet : (known : Option Head) (meta : Meta) → known ≡ Some (heads.Packet meta) → IsAtPacket known
at-packet known meta is = subst IsAtPacket (sym is) tt

-- the same from more
pub memory-more : (fault : Fault) (P Q : Type 0) → (P → Q) → OfMemory fault P → OfMemory fault Q
memory-more (Refused refusal) P Q f h = tt
memory-more (Read file offset) P Q f h = tt
memory-more Write P Q f h = tt
memory-more Memory P Q f h = f h

-- a packet comes
pub memory-here : (fault : Fault) (P : Type 0) → P → OfMemory fault P
memory-here (Refused refusal) P p = tt
memory-here (Read file offset) P p = tt
memory-here Write P p = tt
memory-here Memory P p = p
