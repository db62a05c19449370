-- A packet in numbers, and what a call for the next one does.
use Rattle.std.specs.Prelude.{◌≡◌, ℕ, ◌^◌, ◌≤◌, length, take, ℤ, pos, ◌+ℤ◌, ◌*ℤ◌, List, [], ◌∷◌, Bool, true, false}
use Rattle.std.specs.Prelude.{IsTrue, Option, Some, None, IfSome, Result, Ok, Err, ⊤, drop}
use Rattle.cap_bytes.specs.declared.faults.Fault.{Fault}
use Rattle.cap_bytes.specs.declared.faults.Fault.TheVariants.{Refused, Read, Write, Memory}
use Rattle.cap_source.specs.Feed.{Feed, Item, FeedBreaks, packet, refused}
use Rattle.cap_source.specs.declared.feeds.Head.{Head}
use Rattle.cap_source.specs.declared.feeds.Head.TheVariants as heads
use Rattle.cap_source.specs.declared.packets.Meta.{Meta}
use Rattle.cap_time.specs.declared.resolutions.Interface.{Interface}
use Rattle.cap_time.specs.Resolution.{units_of}
use Rattle.cap_time.specs.Stamp.{stamp_in, seconds_of, numerator_of, denominator_of}
use Rattle.capt_c.specs.declared.packets.CPacket.{CPacket}

-- the time of that many units of an interface in four numbers; none has a denominator of 0
abbrev pub ShowsTime : Option ℕ → Interface → ℤ → ℕ → ℕ → ℕ → Type 0
ShowsTime None interface seconds carry numerator denominator = denominator ≡ 0
ShowsTime (Some units) interface seconds carry numerator denominator =
    (seconds +ℤ pos carry *ℤ pos (2 ^ 64) ≡ seconds_of (stamp_in units interface))
    × (numerator ≡ numerator_of (stamp_in units interface)) × (denominator ≡ denominator_of (stamp_in units interface))

-- a packet is these numbers
pub record ShowsFields (meta : Meta) (p : CPacket) : Type 0 where
  pub offset : p.offset ≡ meta.offset
  pub instance : p.instance ≡ meta.instance
  pub captured : p.captured ≡ meta.captured
  pub original : p.original ≡ meta.original
  pub snaplen : p.snaplen ≡ meta.interface.snaplen
  pub link : p.link ≡ meta.interface.link
  pub time : ShowsTime meta.units meta.interface p.seconds p.carry p.numerator p.denominator
  pub resolution : p.resolution ≡ units_of meta.interface.resolution
  pub time_offset : p.time_offset ≡ meta.interface.offset

-- what is returned for what is known to come next
abbrev pub head_answer : Head → Result Bool Fault
head_answer (heads.Packet meta) = Ok true
head_answer (heads.Refused refusal) = Err (Refused refusal)
head_answer heads.End = Ok false

-- If it was known what comes next, that is what is returned: the end and a refusal, which stay known, come again and
-- again.
abbrev pub AgreesWithKnown : Option Head → Result Bool Fault → Type 0
AgreesWithKnown known answer = IfSome known (λ head. answer ≡ head_answer head)

-- The next packet was returned and passed, or it is known that there is none. If the bytes of the capture are known,
-- it was the next of its packets, and the refusal is the one that ends them. After a refused growth the packets to come
-- are the same.
abbrev pub LeavesPacket : Feed → Result Bool Fault → CPacket → Feed → Type 0
LeavesPacket old (Ok true) p new =
    (meta : Meta) × ShowsFields meta p × (IsTrue old.told → (frame : List ℕ)
    × (old.items ≡ packet meta frame ∷ new.items))
LeavesPacket old (Ok false) p new = (new.known ≡ Some heads.End) × (IsTrue old.told → old.items ≡ [])
LeavesPacket old (Err (Refused refusal)) p new =
    (new.known ≡ Some (heads.Refused refusal)) × (IsTrue old.told → old.items ≡ refused refusal ∷ [])
LeavesPacket old (Err (Read file offset)) p new = FeedBreaks old file offset new
LeavesPacket old (Err Write) p new = ⊥
LeavesPacket old (Err Memory) p new = IsTrue old.told → new.items ≡ old.items

-- a caller's packet is written only if one is returned
abbrev pub KeepsUnless : Result Bool Fault → CPacket → CPacket → Type 0
KeepsUnless (Ok true) was p = ⊤
KeepsUnless (Ok false) was p = p ≡ was
KeepsUnless (Err fault) was p = p ≡ was

-- what a call for the next packet returns and leaves
abbrev pub StepsPacket : Feed → CPacket → Result Bool Fault → CPacket → Feed → Type 0
StepsPacket old was answer p new =
    AgreesWithKnown old.known answer × LeavesPacket old answer p new × KeepsUnless answer was p

-- Those packets were told, one after another.
abbrev pub Told : List Item → List CPacket → List Item → Type 0
Told old [] new = new ≡ old
Told old (p ∷ ps) new =
    (meta : Meta) × (frame : List ℕ) × (rest : List Item)
    × (old ≡ packet meta frame ∷ rest) × ShowsFields meta p × Told rest ps new

-- The next packets were told and passed, as many as `count` says, or it is known that there is none: as `LeavesPacket`
-- has it for one.
abbrev pub LeavesMany : Feed → Result Bool Fault → ℕ → List CPacket → Feed → Type 0
LeavesMany old (Ok true) count packets new =
    (1 ≤ count) × (count ≤ length packets) × (IsTrue old.told → Told old.items (take count packets) new.items)
LeavesMany old (Ok false) count packets new = (count ≡ 0) × (new.known ≡ Some heads.End)
    × (IsTrue old.told → old.items ≡ [])
LeavesMany old (Err (Refused refusal)) count packets new =
    (count ≡ 0) × (new.known ≡ Some (heads.Refused refusal)) × (IsTrue old.told → old.items ≡ refused refusal ∷ [])
LeavesMany old (Err (Read file offset)) count packets new = (count ≡ 0) × FeedBreaks old file offset new
LeavesMany old (Err Write) count packets new = ⊥
LeavesMany old (Err Memory) count packets new = (count ≡ 0) × (IsTrue old.told → new.items ≡ old.items)

-- what a call for the next packets returns and leaves: of a caller's packets it writes as many as `count` says
abbrev pub StepsMany : Feed → List CPacket → Result Bool Fault → ℕ → List CPacket → Feed → Type 0
StepsMany old was answer count packets new =
    AgreesWithKnown old.known answer × LeavesMany old answer count packets new × (drop count packets ≡ drop count was)
