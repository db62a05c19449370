use Rattle.std.proofs.Common.{rules}
use Rattle.cap_talks.proofs.table.tallies.Tally.is_waiting.Goals as goal

pub returns-in-None : goal.returns-in-None
returns-in-None c = search rules
