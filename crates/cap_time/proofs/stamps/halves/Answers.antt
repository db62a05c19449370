use Rattle.std.proofs.Common.{◌∙◌, ap, of_z, w64, arith}
use Rattle.std.proofs.lemmas.Int.{ints}
use lib.IntN.{nat_abs}
use mir.Facts.{to_z-of_z}
use Rattle.cap_time.proofs.StampForms.{low_of, low_above, floor_above, floor_below}
use Rattle.cap_time.proofs.stamps.halves.Goals as goal

pub returns-then-offset-lt0-clause-low : goal.returns-then-offset-lt0-clause-low
returns-then-offset-lt0-clause-low c = c.cast_unsigned.ensures ∙ ap (of_z w64) (to_z-of_z c.ranges.offset)
    ∙ low_of c.args.offset c.ranges.offset

pub returns-then-offset-lt0-clause-high : goal.returns-then-offset-lt0-clause-high
returns-then-offset-lt0-clause-high c = floor_below c.args.offset c.ranges.offset (grind (arith, ints))

pub returns-else-offset-lt0-clause-low : goal.returns-else-offset-lt0-clause-low
returns-else-offset-lt0-clause-low c = ap nat_abs (to_z-of_z c.ranges.offset)
    ∙ low_above c.args.offset c.ranges.offset (grind (arith, ints))

pub returns-else-offset-lt0-clause-high : goal.returns-else-offset-lt0-clause-high
returns-else-offset-lt0-clause-high c = floor_above c.args.offset c.ranges.offset (grind (arith, ints))
