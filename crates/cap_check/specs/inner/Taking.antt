-- How the packets of a feed are taken, one by one.
use Rattle.std.specs.Prelude.{◌≡◌, ◌≤◌, ℕ, Bool, true, false, not, IsTrue, Option, Some, None, Result, Ok, Err, ⊤}
use Rattle.std.specs.Ordering.{is_lt}
use Rattle.cap_bytes.specs.declared.faults.Fault.{Fault}
use Rattle.cap_bytes.specs.declared.faults.Fault.TheVariants.{Refused, Read, Write, Memory}
use Rattle.cap_source.specs.Feed.{Feed, HasFile, refusal_of}
use Rattle.cap_source.specs.declared.feeds.Head.{Head}
use Rattle.cap_source.specs.declared.feeds.Head.TheVariants as heads
use Rattle.cap_source.specs.declared.packets.Meta.{Meta}
use Rattle.cap_source.specs.inner.Fronts.{Fronts, FrontsFail, FrontsGive, MayEnd}
use Rattle.cap_time.specs.Stamp.{stamp_cmp}
use Rattle.cap_time.specs.declared.stamps.Stamp.{Stamp}
use Rattle.cap_check.specs.Checking.{checked_after, nothing_checked}
use Rattle.cap_check.specs.declared.checked.Checked.{Checked}

-- a least and a greatest time are there, the greatest not before the least, or neither is
abbrev pub are_least_first : Option Stamp → Option Stamp → Bool
are_least_first None None = true
are_least_first None (Some last) = false
are_least_first (Some first) None = false
are_least_first (Some first) (Some last) = not (is_lt (stamp_cmp last first))

-- all packets that a feed gave were taken, or those before what refuses it
abbrev pub TakesPackets : {A : Type 0} → Feed → Result A Fault → Feed → Checked → Type 0
TakesPackets old (Ok done) new checked =
    (refusal_of old.items ≡ None) × (checked ≡ checked_after nothing_checked old.items)
    × ((file : ℕ) → new.endings file ≡ old.endings file)
TakesPackets old (Err (Refused refusal)) new checked =
    (refusal_of old.items ≡ Some refusal) × (checked ≡ checked_after nothing_checked old.items)
    × ((file : ℕ) → new.endings file ≡ old.endings file)
TakesPackets old (Err (Read file offset)) new checked = ⊤
TakesPackets old (Err Write) new checked = ⊥
TakesPackets old (Err Memory) new checked = ⊤

-- what comes next then: the end, or the refusal
abbrev pub EndsAt : {A : Type 0} → Result A Fault → Option Head → Type 0
EndsAt (Ok done) known = known ≡ Some heads.End
EndsAt (Err (Refused refusal)) known = known ≡ Some (heads.Refused refusal)
EndsAt (Err (Read file offset)) known = ⊤
EndsAt (Err Write) known = ⊥
EndsAt (Err Memory) known = ⊤

-- A failed read is of a file of the feed, whose device can fail.
abbrev pub FailsHere : {A : Type 0} → Feed → Result A Fault → Type 0
FailsHere old (Ok done) = ⊤
FailsHere old (Err (Refused refusal)) = ⊤
FailsHere old (Err (Read file offset)) = HasFile old.files file × IsTrue (old.can_fail file)
FailsHere old (Err Write) = ⊤
FailsHere old (Err Memory) = ⊤

-- A read failed in what begins at that offset. All packets were taken that the file would have if it ended there, and
-- it has so far what it would have then. If nothing of it was read, none was.
pub record StopsAt (old : Fronts) (offset : ℕ) (new : Fronts) (checked : Checked) : Type 0 where
  pub within : offset ≤ old.size
  pub fresh : new.begun ≡ false → (old.begun ≡ false) × (offset ≡ old.offset) × (checked ≡ nothing_checked)
  pub back : IsTrue new.begun → MayEnd old offset
  pub refusal : IsTrue new.begun → refusal_of (old.items offset) ≡ None
  pub counts : IsTrue new.begun → checked ≡ checked_after nothing_checked (old.items offset)
  pub so_far : IsTrue new.begun → new.so_far ≡ Some (old.ending offset)
  pub whole : IsTrue new.begun → (old.ending offset).ending.cut ≡ None

abbrev pub StopsIf : {A : Type 0} → Fronts → Result A Fault → Fronts → Checked → Type 0
StopsIf old (Ok done) new checked = ⊤
StopsIf old (Err (Refused refusal)) new checked = ⊤
StopsIf old (Err (Read file offset)) new checked = StopsAt old offset new checked
StopsIf old (Err Write) new checked = ⊤
StopsIf old (Err Memory) new checked = ⊤

-- a packet that comes next, of the file as it would be if it ended behind it; or a read that failed
abbrev pub FrontsNext : Fronts → Result (Option Meta) Fault → Fronts → Type 0
FrontsNext old (Ok (Some meta)) new = FrontsGive old (Some (heads.Packet meta)) new
FrontsNext old (Ok None) new = ⊤
FrontsNext old (Err (Refused refusal)) new = ⊤
FrontsNext old (Err (Read file offset)) new = old.broken ≡ None → FrontsFail old offset new
FrontsNext old (Err Write) new = ⊤
FrontsNext old (Err Memory) new = ⊤
