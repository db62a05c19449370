use Rattle.std.proofs.Common.{sym, subst, arith}
use Rattle.cap_join.specs.Joiners.{JoinerState, JoinerStandsFor}
use Rattle.cap_join.proofs.Most.{most_bytes-held}
use Rattle.cap_join.proofs.joiners.Joiner.held_bytes.Goals as goal

pub returns-in-Some-clause-stands : goal.returns-in-Some-clause-stands
returns-in-Some-clause-stands c = λ events stands. grind (
  arith,
  subst (λ (j : JoinerState). JoinerStandsFor j events) (sym c.self.view_is) stands,
  most_bytes-held,
  c.most_bytes.ensures.value,
  c.in-Some.is,
)
