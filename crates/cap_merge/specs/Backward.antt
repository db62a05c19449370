-- Packets that run backward: whose time is earlier than that of a packet before them in their file.
use Rattle.std.specs.Prelude.{ℕ, ◌+◌, ◌^◌, ◌-◌, min, Bool, true, false, Option, if◌then◌else◌}
use Rattle.cap_time.specs.Clock.{is_backward}
use Rattle.cap_time.specs.declared.stamps.Stamp.{Stamp}

-- how many packets more run backward with one of that clock, the greatest of the times of its file up to it, and of
-- that time, if they are counted
abbrev pub backward_step : Bool → Option Stamp → Option Stamp → ℕ
backward_step false clock time = 0
backward_step true clock time = if is_backward clock time then 1 else 0

-- how many do then: at most 2^64 - 1 are counted
abbrev pub backward_after : Bool → ℕ → Option Stamp → Option Stamp → ℕ
backward_after counts count clock time = min (count + backward_step counts clock time) (2 ^ 64 - 1)
