use Rattle.std.proofs.Common.{◌-◌, ◌≡◌, ◌<◌, ◌++◌, length, take}
use Rattle.cap_print.specs.Decimals.{place_digits}
use Rattle.cap_print.proofs.decimals.write_places.Given as goal

-- the first i places are written, and the others are those of what is left
abbrev pub invariant-places : goal.invariant-places
invariant-places l = (l.left < l.denominator)
    × (take l.i l.digits ++ place_digits (length l.digits - l.i) l.left l.denominator
    ≡ place_digits (length l.initial.digits) l.numerator l.denominator)
