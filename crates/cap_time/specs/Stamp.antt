-- What contracts see of a `Stamp`: its printed form, its time, and how stamps compare
-- (draft-ietf-opsawg-pcapng, 4.2).
use Rattle.std.specs.Prelude.{ℕ, ◌+◌, ◌*◌, ◌/◌, ◌%◌, ◌^◌, ℤ, pos, ◌+ℤ◌, ◌*ℤ◌, Bool, Option, Some, None, ◌==◌}
use Rattle.std.specs.Prelude.{if◌then◌else◌}
use Rattle.std.specs.Ordering.{eq_by_cmp}
use Rattle.std.specs.declared.cmp.Ordering.{Ordering}
use Rattle.cap_time.specs.declared.resolutions.Interface.{Interface}
use Rattle.cap_time.specs.declared.stamps.Stamp.{Stamp}
use Rattle.cap_time.specs.Code.{units_of_code}
use Rattle.cap_time.specs.Resolution.{units_of}
use Rattle.cap_time.specs.Time.{Time, Printed, time_at, time_cmp, floor_of, remainder_of}

-- the second from which its units count
abbrev pub offset_of : Stamp → ℤ
offset_of stamp = pos stamp.low +ℤ stamp.high *ℤ pos (2 ^ 64)

-- the three numbers of the printed form, the last of which is the units in a second
abbrev pub denominator_of : Stamp → ℕ
denominator_of stamp = units_of_code stamp.code

abbrev pub seconds_of : Stamp → ℤ
seconds_of stamp = offset_of stamp +ℤ pos (stamp.units / denominator_of stamp)

abbrev pub numerator_of : Stamp → ℕ
numerator_of stamp = stamp.units % denominator_of stamp

abbrev pub printed_of : Stamp → Printed
printed_of stamp = record {
  seconds = seconds_of stamp;
  numerator = numerator_of stamp;
  denominator =
      denominator_of stamp;
}

-- the time: the numerator's units after the seconds
abbrev pub time_of : Stamp → Time
time_of stamp = time_at (numerator_of stamp) (denominator_of stamp) (seconds_of stamp)

-- stamps compare as their times do, whatever their denominators
unfoldable pub stamp_cmp : Stamp → Stamp → Ordering
stamp_cmp a b = time_cmp (time_of a) (time_of b)

abbrev pub stamp_eq : Stamp → Stamp → Bool
stamp_eq = eq_by_cmp stamp_cmp

-- the time of a number of an interface's units
abbrev pub time_in : ℕ → Interface → Time
time_in units interface = time_at units (units_of interface.resolution) interface.offset

-- the stamp of a number of an interface's units
unfoldable pub stamp_in : ℕ → Interface → Stamp
stamp_in units interface = record {
  units = units;
  code = interface.resolution.code;
  low = remainder_of interface.offset (2 ^ 64);
  high = floor_of interface.offset (2 ^ 64);
  allowed = interface.resolution.allowed;
}

-- the stamp of that many seconds later, in the same form
unfoldable pub stamp_plus : Stamp → ℕ → Stamp
stamp_plus stamp seconds = record stamp {
  low = (stamp.low + seconds) % 2 ^ 64;
  high =
      stamp.high +ℤ pos ((stamp.low + seconds) / 2 ^ 64);
}

-- its whole seconds, and how many of d units in a second its fraction is, if that is a whole number
abbrev pub whole_of : ℕ → Stamp → Option (ℤ × ℕ)
whole_of d stamp = if numerator_of stamp * d % denominator_of stamp == 0 then Some
    (seconds_of stamp, numerator_of stamp * d / denominator_of stamp) else None
