-- How two feeds are compared, packet by packet.
use Rattle.std.specs.Prelude.{◌≡◌, ℕ, ◌+◌, List, Bool, false, not, IsNone, IsSome, IsTrue, Option, Some, None, Result}
use Rattle.std.specs.Prelude.{Ok, Err}
use Rattle.std.specs.Prelude.{⊤}
use Rattle.std.specs.Prelude.{◌⊎◌}
use Rattle.cap_bytes.specs.declared.faults.Fault.{Fault}
use Rattle.cap_bytes.specs.declared.stops.CutRest.{CutRest}
use Rattle.cap_bytes.specs.declared.faults.Fault.TheVariants.{Refused, Read, Write, Memory}
use Rattle.cap_line.specs.declared.jobs.Ignored.{Ignored}
use Rattle.cap_source.specs.Feed.{Feed, HasFile, IsPacket}
use Rattle.cap_source.specs.declared.feeds.FileEnd.{FileEnd}
use Rattle.cap_source.specs.declared.feeds.Head.{Head}
use Rattle.cap_source.specs.declared.feeds.Head.TheVariants as heads
use Rattle.cap_source.specs.declared.packets.Meta.{Meta}
use Rattle.cap_commands.specs.DiffText.{Compared, Comparison, counted_differences, differences_of, do_differ}
use Rattle.cap_commands.specs.DiffText.{other_packet, same_packets, stopped_by}
use Rattle.cap_commands.specs.declared.diff.Divergence.{Divergence}

-- a packet with its captured bytes, if there is one
abbrev pub compared_of : Option Meta → List ℕ → Option Compared
compared_of None frame = None
compared_of (Some meta) frame = Some (record { meta = meta; frame = frame })

-- the packet that comes next, if that is known
abbrev pub known_packet : Option Head → Option Meta
known_packet None = None
known_packet (Some (heads.Packet meta)) = Some meta
known_packet (Some (heads.Refused refusal)) = None
known_packet (Some heads.End) = None

-- what a feed gives next by whether a packet comes next, which is known then
abbrev pub given : Result Bool Fault → Option Head → Result (Option Meta) Fault
given (Ok found) known = Ok (known_packet known)
given (Err fault) known = Err fault

-- two packets are the same apart from what is ignored; none is the same as nothing
abbrev pub are_alike : Ignored → Option Compared → Option Compared → Bool
are_alike ignored None other = false
are_alike ignored (Some a) None = false
are_alike ignored (Some a) (Some b) = not (do_differ (counted_differences ignored (differences_of a b)))

-- the comparison, if those come after so many packets that are the same, and aren't the same
abbrev pub parted : ℕ → Option Compared → Option Compared → Comparison
parted n None None = same_packets n
parted n None (Some b) = other_packet (n + 1) None (Some b)
parted n (Some a) other = other_packet (n + 1) (Some a) other

-- two feeds, whose next packets have those bytes, were compared up to where they part, or up to a refusal
abbrev pub Parts : Comparison → Result Divergence Fault → List ℕ → List ℕ → Type 0
Parts c (Ok p) frame other = c ≡ parted p.passed (compared_of p.first frame) (compared_of p.second other)
Parts c (Err (Refused refusal)) frame other = c ≡ stopped_by refusal
Parts c (Err (Read file offset)) frame other = ⊤
Parts c (Err Write) frame other = ⊥
Parts c (Err Memory) frame other = ⊤

-- where a feed has a packet, that is known, and where it has none, its end
pub record KnowsPackets (p : Divergence) (a b : Feed) : Type 0 where
  pub first : IsSome p.first → IsPacket a.known
  pub second : IsSome p.second → IsPacket b.known
  pub first_end : IsNone p.first → a.known ≡ Some heads.End
  pub second_end : IsNone p.second → b.known ≡ Some heads.End

-- the rest that was cut of a file that ends so, if no packet comes next
abbrev pub ended_cut : Option Meta → FileEnd → Option CutRest
ended_cut None end = end.ending.cut
ended_cut (Some meta) end = None

-- A failed read is of a file of the one feed or the other, whose device can fail.
abbrev pub FailsOne : {A : Type 0} → Feed → Feed → Result A Fault → Type 0
FailsOne a b (Ok _) = ⊤
FailsOne a b (Err (Refused refusal)) = ⊤
FailsOne a b (Err (Read file offset)) =
    (HasFile a.files file × IsTrue (a.can_fail file)) ⊎ (HasFile b.files file × IsTrue (b.can_fail file))
FailsOne a b (Err Write) = ⊤
FailsOne a b (Err Memory) = ⊤
