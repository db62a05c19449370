use Rattle.std.proofs.Common.{◌≡◌, ◌-◌, arith}
use Rattle.cap_print.proofs.Places.{places-done, places-more, places-none}
use Rattle.cap_print.proofs.decimals.count_places.Goals as goal

pub places-preserved : goal.places-preserved
places-preserved c = (
  omega arith,
  c.divide_place-left.ensures.below,
  rw c.divide_place-left.ensures.left (places-more c.places.places c.places.left c.args.denominator _
      c.places-test.true c.if-left-ne0.true c.places.invariant.2),
)

pub returns-else-left-ne0-clause-value : goal.returns-else-left-ne0-clause-value
returns-else-left-ne0-clause-value c =
    let more = rw c.if-left-ne0.false at c.places.invariant.2 in
    omega (arith, more, places-done (63 - c.places.places) c.args.denominator)

pub returns-after-places-clause-value : goal.returns-after-places-clause-value
returns-after-places-clause-value c =
    let last : 63 - c.places.places ≡ 0 = omega arith in
    let more = rw last at c.places.invariant.2 in
    omega (arith, more, places-none c.places.left c.args.denominator)
