use Rattle.std.proofs.Common.{sym, subst, arith}
use Rattle.cap_join.specs.Joiners.{JoinerState, JoinerStandsFor}
use Rattle.cap_join.proofs.Entries.{lengths}
use Rattle.cap_join.proofs.joiners.Joiner.open_count.Goals as goal

pub returns-in-Some-clause-stands : goal.returns-in-Some-clause-stands
returns-in-Some-clause-stands c = λ events stands. grind (
  arith,
  subst (λ (j : JoinerState). JoinerStandsFor j events) (sym c.self.view_is) stands,
  lengths,
  c.len.ensures,
  c.in-Some.is,
)
