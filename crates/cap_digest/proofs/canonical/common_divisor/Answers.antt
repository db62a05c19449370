use Rattle.std.proofs.Common.{arith, sym}
use Rattle.std.proofs.Math.Nat.{le_of_dvd}
use Rattle.std.specs.Int.{IsGcd}
use Rattle.std.proofs.lemmas.Nat.Gcd.{IsGcd-from_mod, IsGcd-from_zero, IsGcd-swap}
use Rattle.cap_digest.proofs.Divisors.{greatest-is}
use Rattle.cap_digest.proofs.canonical.common_divisor.Goals as goal

pub steps-preserved : goal.steps-preserved
steps-preserved c = (
  omega arith,
  λ g h. c.steps.invariant.1 g (IsGcd-from_mod c.steps.x c.steps.y g h),
)

pub returns-clause-value : goal.returns-clause-value
returns-clause-value c =
    let x = c.steps.x in
    let is : IsGcd c.args.b c.args.a x = c.steps.invariant.1 x (IsGcd-from_zero x c.steps.y c.steps-test.false) in
    sym (greatest-is c.args.b c.args.a c.args.b x (IsGcd-swap c.args.b c.args.a x is) c.requires
    (le_of_dvd c.requires is.0))
