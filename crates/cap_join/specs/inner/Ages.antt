-- When open groups are too old: a bound of their ages, and groups in the order of their clocks.
use Rattle.std.specs.Prelude.{◌≡◌, List, [], ◌∷◌, Bool, true, false, not, Option, None, Some}
use Rattle.std.specs.Ordering.{is_lt, is_gt}
use Rattle.cap_time.specs.declared.stamps.Stamp.{Stamp}
use Rattle.cap_time.specs.Stamp.{stamp_cmp, stamp_plus}
use Rattle.cap_join.specs.Frames.{wait, is_before, is_too_old}
use Rattle.cap_ip.specs.declared.headers.Key.{Key}
use Rattle.cap_join.specs.inner.Groups.{GroupState}
use Rattle.cap_join.specs.Joiners.{Entry}

-- the last time at which a group isn't too old, if its first fragment has a clock
abbrev pub deadline_of : Option Stamp → Option Stamp
deadline_of None = None
deadline_of (Some clock) = Some (stamp_plus clock wait)

-- a deadline is before a clock; if there is none it never is
abbrev pub is_past : Option Stamp → Option Stamp → Bool
is_past None now = false
is_past (Some deadline) now = is_before (Some deadline) now

-- the deadline of the group with a clock that was opened last, once one more is opened
abbrev pub latest_of : Option Stamp → Option Stamp → Option Stamp
latest_of latest None = latest
latest_of latest (Some deadline) = Some deadline

-- a deadline isn't before the latest
abbrev pub is_in_turn : Option Stamp → Option Stamp → Bool
is_in_turn latest None = true
is_in_turn None (Some deadline) = true
is_in_turn (Some latest) (Some deadline) = not (is_lt (stamp_cmp deadline latest))

-- No group is too old at a clock.
abbrev pub NoneOld : Option Stamp → List Entry → Type 0
NoneOld now [] = Unit {0}
NoneOld now (e ∷ es) = (is_too_old e.1.clock now ≡ false) × NoneOld now es

-- No group is too old before a deadline is past.
abbrev pub IsDeadline : Option Stamp → List Entry → Type 0
IsDeadline deadline es = (now : Option Stamp) → is_past deadline now ≡ false → NoneOld now es

-- While a group of a clock isn't too old none of some others is.
abbrev pub Precedes : Option Stamp → List Entry → Type 0
Precedes None es = Unit {0}
Precedes (Some clock) es = (now : Option Stamp) → is_too_old (Some clock) now ≡ false → NoneOld now es

-- The groups with a clock stand in the order of their clocks.
abbrev pub AreInTurn : List Entry → Type 0
AreInTurn [] = Unit {0}
AreInTurn (e ∷ es) = Precedes e.1.clock es × AreInTurn es

-- A deadline isn't after the latest.
abbrev pub IsUpTo : Option Stamp → Option Stamp → Type 0
IsUpTo None latest = Unit {0}
IsUpTo (Some deadline) None = ⊥
IsUpTo (Some deadline) (Some latest) = is_gt (stamp_cmp deadline latest) ≡ false

-- No group's deadline is after the latest.
abbrev pub AreUpTo : Option Stamp → List Entry → Type 0
AreUpTo latest [] = Unit {0}
AreUpTo latest (e ∷ es) = IsUpTo (deadline_of e.1.clock) latest × AreUpTo latest es

-- No group has a clock.
abbrev pub AreTimeless : List Entry → Type 0
AreTimeless [] = Unit {0}
AreTimeless (e ∷ es) = (e.1.clock ≡ None) × AreTimeless es

-- The first group is that of a key, and has no clock.
pub record IsFirstTimeless (key : Key) (es : List Entry) : Type 0 where
  pub group : GroupState
  pub others : List Entry
  pub first : es ≡ (key, group) ∷ others
  pub timeless : group.clock ≡ None
