-- The frames of a group of fragments, listed with the latest first; and when a group is too old (RFC 791, 3.2; 30
-- seconds are capt's own, as Linux has them).
use Rattle.std.specs.Prelude.{ℕ, List, [], ◌∷◌, Bool, false, Option, None, Some, ◌+◌, if◌then◌else◌}
use Rattle.std.specs.Option.{option_cmp}
use Rattle.std.specs.Ordering.{is_lt}
use Rattle.cap_time.specs.declared.stamps.Stamp.{Stamp}
use Rattle.cap_time.specs.Stamp.{stamp_cmp, stamp_plus}
use Rattle.cap_join.specs.declared.datagrams.Stamped.{Stamped}
use Rattle.cap_join.specs.Fragments.{Piece}

-- a time is before another; no time is before every other
abbrev pub is_before : Option Stamp → Option Stamp → Bool
is_before a b = is_lt (option_cmp stamp_cmp a b)

-- the sum of the frames' original lengths
abbrev pub pieces_original : List Piece → ℕ
pieces_original [] = 0
pieces_original (p ∷ ps) = pieces_original ps + p.stamped.original

-- a frame, if it has a time
abbrev pub timed : Stamped → Option Stamp → Option Stamped
timed frame None = None
timed frame (Some time) = Some frame

-- Of the frame of the least time so far, which has one, and one more after it, the one of the lesser time: of equal
-- times the one that was there, whose place is lower.
abbrev pub earlier_stamped : Option Stamped → Option Stamped → Option Stamped
earlier_stamped first None = first
earlier_stamped None (Some frame) = Some frame
earlier_stamped (Some first) (Some frame) = if is_before frame.time first.time then Some frame else Some first

-- likewise of the frame of the greatest time
abbrev pub later_stamped : Option Stamped → Option Stamped → Option Stamped
later_stamped last None = last
later_stamped None (Some frame) = Some frame
later_stamped (Some last) (Some frame) = if is_before last.time frame.time then Some frame else Some last

-- the frame of the least time, of equal times that of the lowest place; none if no frame has a time
abbrev pub first_frame : List Piece → Option Stamped
first_frame [] = None
first_frame (p ∷ ps) = earlier_stamped (first_frame ps) (timed p.stamped p.stamped.time)

-- the frame of the greatest time, of equal times that of the lowest place
abbrev pub last_frame : List Piece → Option Stamped
last_frame [] = None
last_frame (p ∷ ps) = later_stamped (last_frame ps) (timed p.stamped p.stamped.time)

-- how many seconds a group waits for its fragments
abbrev pub wait : ℕ
wait = 30

-- a group is too old at a clock: that of its first fragment and 30 seconds are before it; without a clock it never is
abbrev pub is_too_old : Option Stamp → Option Stamp → Bool
is_too_old None now = false
is_too_old (Some clock) now = is_before (Some (stamp_plus clock wait)) now
