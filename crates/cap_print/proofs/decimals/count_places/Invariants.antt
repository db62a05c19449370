use Rattle.std.proofs.Common.{◌-◌, ◌≡◌, ◌+◌, ◌<◌, ◌≤◌}
use Rattle.cap_print.specs.Decimals.{decimal_places, places_until}
use Rattle.cap_print.proofs.decimals.count_places.Given as goal

-- so many places were counted, and the others are those of what is left
abbrev pub invariant-places : goal.invariant-places
invariant-places l = (l.places ≤ 63) × (l.left < l.denominator)
    × (decimal_places l.denominator ≡ l.places + places_until (63 - l.places) l.left l.denominator)

abbrev pub decreases-places : goal.decreases-places
decreases-places l = 63 - l.places
