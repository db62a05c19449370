-- Clocks: the greatest time among the packets of a file up to an item.
use Rattle.std.specs.Prelude.{List, [], ◌∷◌, Bool, ◌&&◌, Option, None, Some, is_some, if◌then◌else◌}
use Rattle.std.specs.Option.{option_cmp}
use Rattle.std.specs.Ordering.{is_lt, is_gt}
use Rattle.std.specs.declared.cmp.Ordering.{Ordering}
use Rattle.cap_time.specs.declared.stamps.Stamp.{Stamp}
use Rattle.cap_time.specs.Stamp.{stamp_cmp}

-- clocks compare as their times do, and no clock is smaller than every other
abbrev pub clock_cmp : Option Stamp → Option Stamp → Ordering
clock_cmp = option_cmp stamp_cmp

-- the greater of two times, of equal ones the first
abbrev pub later : Option Stamp → Option Stamp → Option Stamp
later a b = if is_lt (clock_cmp a b) then b else a

-- A packet runs backward: it has a time, and a clock is later, the greatest of the times of its file before it or up to
-- it.
abbrev pub is_backward : Option Stamp → Option Stamp → Bool
is_backward clock time = is_some time && is_gt (clock_cmp clock time)

-- the earlier of two times, of equal ones the first, or the only one
abbrev pub earlier : Option Stamp → Option Stamp → Option Stamp
earlier None b = b
earlier (Some a) None = Some a
earlier (Some a) (Some b) = if is_lt (stamp_cmp b a) then Some b else Some a

-- the greatest of a time and some others
abbrev pub greatest_from : Option Stamp → List (Option Stamp) → Option Stamp
greatest_from time [] = time
greatest_from time (t ∷ ts) = greatest_from (later time t) ts

-- the greatest of some times; none if there are none
abbrev pub greatest : List (Option Stamp) → Option Stamp
greatest times = greatest_from None times
