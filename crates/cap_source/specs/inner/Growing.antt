-- Where a call that goes through a feed returns that a growth was refused, so that it isn't returned in place of a
-- refusal or at the end.
use Rattle.std.specs.Prelude.{Option, Some, None, Result, Ok, Err, ⊤}
use Rattle.cap_bytes.specs.declared.faults.Fault.{Fault}
use Rattle.cap_bytes.specs.declared.faults.Fault.TheVariants.{Refused, Read, Write, Memory}
use Rattle.cap_source.specs.declared.feeds.Head.{Head}
use Rattle.cap_source.specs.declared.feeds.Head.TheVariants as heads

-- If the fault is a refused growth, that holds.
abbrev pub OfMemory : Fault → Type 0 → Type 0
OfMemory (Refused refusal) P = ⊤
OfMemory (Read file offset) P = ⊤
OfMemory Write P = ⊤
OfMemory Memory P = P

-- If it returns `Memory`, that holds.
abbrev pub IfMemory : {A : Type 0} → Result A Fault → Type 0 → Type 0
IfMemory (Ok _) P = ⊤
IfMemory (Err fault) P = OfMemory fault P

-- It isn't known what comes next, or a packet does.
abbrev pub IsAtPacket : Option Head → Type 0
IsAtPacket None = ⊤
IsAtPacket (Some (heads.Packet meta)) = ⊤
IsAtPacket (Some (heads.Refused refusal)) = ⊥
IsAtPacket (Some heads.End) = ⊥
