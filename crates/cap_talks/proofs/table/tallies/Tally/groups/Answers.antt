use Rattle.std.proofs.Common.{arith, rules}
use Rattle.cap_talks.specs.inner.table.TallyView.{tally_view}
use Rattle.cap_talks.proofs.Waiting.{groups-few}
use Rattle.cap_talks.proofs.table.tallies.Tally.groups.Goals as goal

pub returns-clause-bound : goal.returns-clause-bound
returns-clause-bound c =
    omega (
      arith,
      groups-few (tally_view c.self.inside) c.self.invariant,
      c.open_count.ensures.value,
      c.waiting_count.ensures,
    )

pub returns-clause-value : goal.returns-clause-value
returns-clause-value c = search rules
