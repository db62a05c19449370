use Rattle.std.proofs.Common.{◌≡◌, Bool, true, false, sym, subst, refl, arith}
use Rattle.std.specs.Prelude.{if◌then◌else◌}
use mir.Val.{bool_byte}
use Rattle.cap_join.specs.History.{open_groups_after, step, joined_pieces}
use Rattle.cap_join.specs.Joiners.{JoinerState, JoinerStandsFor}
use Rattle.cap_join.proofs.Putting.{IsTable-wider}
use Rattle.cap_join.proofs.joiners.Joiner.put.Goals as goal

-- a test as a number
number : (b : Bool) → bool_byte b ≡ (if b then 1 else 0)
number true = refl
number false = refl

pub put_fragment-requires-clause-table : goal.put_fragment-requires-clause-table
put_fragment-requires-clause-table c = grind (arith, IsTable-wider, c.requires.place, c.self.invariant.table)

pub returns-in-Ok-clause-answer : goal.returns-in-Ok-clause-answer
unfolding joined_pieces
returns-in-Ok-clause-answer c = λ events stands. grind
    (arith, subst (λ (j : JoinerState). JoinerStandsFor j events) (sym c.self.view_is) stands, c.in-Ok.ensures.ok)

pub returns-in-Ok-clause-stands : goal.returns-in-Ok-clause-stands
unfolding open_groups_after step
returns-in-Ok-clause-stands c = λ events stands. grind (
  arith,
  subst (λ (j : JoinerState). JoinerStandsFor j events) (sym c.self.view_is) stands,
  number,
  c.in-Ok.ensures.ok,
  c.from.ensures,
)
