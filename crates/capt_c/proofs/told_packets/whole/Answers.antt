use Rattle.std.proofs.Common.{◌≡◌, ◌≤◌, ◌^◌, ℕ, ℤ, pos, w64, arith, inl, inr, sym, subst}
use Rattle.std.proofs.lemmas.Bool.{cases_lt}
use Rattle.std.proofs.lemmas.Int.{ints}
use Rattle.std.specs.Int.{FitsUnsigned}
use Rattle.capt_c.proofs.told_packets.whole.Goals as goal

pub returns-in-Ok-clause-some : goal.returns-in-Ok-clause-some
returns-in-Ok-clause-some c =
    omega (arith, ints, c.from.ensures, c.from-2.ensures, c.from-3.ensures, c.in-Ok.ensures)

late : (elapsed : ℤ) (whole : ℕ) → (FitsUnsigned w64 elapsed → ⊥) → elapsed ≡ pos whole → 2 ^ 64 ≤ whole
late elapsed whole far is = elim (cases_lt whole (2 ^ 64)) [
  | inl less ↦ absurd (far (subst (FitsUnsigned w64) (sym is) (omega (arith, ints), omega (arith, ints, less))))
  | inr most ↦ omega (arith, most)
]

pub returns-in-Err-clause-none : goal.returns-in-Err-clause-none
returns-in-Err-clause-none c = λ e whole is.
    late _ whole c.in-Err.ensures (omega (arith, ints, is, c.from.ensures, c.from-2.ensures, c.from-3.ensures))
