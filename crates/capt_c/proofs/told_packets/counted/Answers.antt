use Rattle.std.proofs.Common.{◌≡◌, ◌≤◌, ◌<◌, ◌^◌, ◌+◌, ◌*◌, ℕ, arith, subst}
use Rattle.std.proofs.lemmas.Int.{ints}
use Rattle.std.proofs.Math.Nat.{le-mul_of_pos_right}
use Rattle.capt_c.proofs.told_packets.counted.Goals as goal

pub returns-in_default-clause-none : goal.returns-in_default-clause-none
returns-in_default-clause-none c = λ e whole is.
    omega (
      arith,
      c.whole.ensures.none c.in_default.is whole is,
      le-mul_of_pos_right {m = c.args.packet.now.denominator} whole c.requires,
    )

pub returns-in-Ok-clause-some : goal.returns-in-Ok-clause-some
returns-in-Ok-clause-some c = (
  c.in-Some.whole,
  c.in-Some.ensures.some,
  rw (c.from.ensures, c.from-2.ensures, c.from-3.ensures) at c.in-Ok.ensures.1,
)

same : (a whole : ℕ) (d n : ℕ) → a ≡ whole → (a * d + n < 2 ^ 64 → ⊥) → 2 ^ 64 ≤ whole * d + n
same a whole d n is far = subst (λ w. 2 ^ 64 ≤ w * d + n) is (omega (arith, far))

pub returns-in-Err-clause-none : goal.returns-in-Err-clause-none
returns-in-Err-clause-none c = λ e whole is.
    same c.in-Some.whole whole c.args.packet.now.denominator c.args.packet.now.numerator
    (omega (arith, ints, is, c.in-Some.ensures.some))
    (rw (c.from.ensures, c.from-2.ensures, c.from-3.ensures) at c.in-Err.ensures)
