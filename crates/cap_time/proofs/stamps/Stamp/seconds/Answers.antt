use Rattle.std.proofs.Common.{◌/◌, ◌∙◌, ap, arith}
use Rattle.std.proofs.lemmas.Int.{ints}
use Rattle.cap_time.proofs.stamps.Stamp.seconds.Goals as goal

pub overflow_mul-offset : goal.overflow_mul-offset
overflow_mul-offset c = omega (arith, ints)

pub overflow_add-offset : goal.overflow_add-offset
overflow_add-offset c = omega (arith, ints)

pub returns : goal.returns
returns c = omega (
  arith,
  ints,
  c.from.ensures,
  c.from-2.ensures,
  c.from-3.ensures,
  c.split.ensures.whole ∙ ap (λ d. c.args.self.units / d) c.denominator.ensures.value,
)
