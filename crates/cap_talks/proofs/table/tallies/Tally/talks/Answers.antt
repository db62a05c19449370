use Rattle.std.proofs.Common.{rules}
use Rattle.cap_talks.proofs.table.tallies.Tally.talks.Goals as goal

pub returns-clause-value : goal.returns-clause-value
returns-clause-value c = search rules
