use Rattle.std.proofs.Common.{sym, subst, arith}
use Rattle.cap_join.specs.History.{open_groups_after, step}
use Rattle.cap_join.specs.Joiners.{JoinerState, JoinerStandsFor}
use Rattle.cap_join.proofs.Steps.{AreEntriesOf-without}
use Rattle.cap_join.proofs.Putting.{IsTable-removed}
use Rattle.cap_join.proofs.joiners.Joiner.flush.Goals as goal

pub invariant_of-self : goal.invariant_of-self
invariant_of-self c =
    search (
      IsTable-removed,
      c.self.invariant.table,
      c.drop_group.ensures.entries,
      c.drop_group.ensures.unique,
      c.self.invariant.table.unique,
      c.self.invariant.given_up,
      c.self.invariant.next,
    )

pub returns-clause-stands : goal.returns-clause-stands
unfolding open_groups_after step
returns-clause-stands c = λ events stands. grind (
  arith,
  subst (λ (j : JoinerState). JoinerStandsFor j events) (sym c.self.view_is) stands,
  AreEntriesOf-without,
  c.drop_group.ensures.entries,
  c.self.invariant.table.unique,
)
