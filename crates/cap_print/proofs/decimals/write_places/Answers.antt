use Rattle.std.proofs.Common.{◌+◌, ap, arith}
use Rattle.cap_print.proofs.Places.{digits-done, digits-more}
use Rattle.cap_print.proofs.decimals.write_places.Goals as goal

pub places-preserved : goal.places-preserved
places-preserved c = (
  c.divide_place-place.ensures.below,
  rw c.divide_place-place.ensures.left (digits-more c.places.digits c.places.i c.places.left c.args.denominator _
      _ (omega arith) (ap (λ n. 48 + n) c.divide_place-place.ensures.place) c.places.invariant.1),
)

pub returns : goal.returns
returns c = digits-done _ c.places.i c.places.left c.args.denominator _ (omega arith) c.places.invariant.1
