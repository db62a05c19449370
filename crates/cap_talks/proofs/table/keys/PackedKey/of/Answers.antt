use Rattle.std.proofs.Common.{rules}
use Rattle.cap_talks.proofs.table.keys.PackedKey.of.Goals as goal

pub returns-else-source-destination-clause-value : goal.returns-else-source-destination-clause-value
returns-else-source-destination-clause-value c = search rules

pub returns-then-source-destination-clause-value : goal.returns-then-source-destination-clause-value
returns-then-source-destination-clause-value c = search rules

pub returns-else-source-destination-clause-forward : goal.returns-else-source-destination-clause-forward
returns-else-source-destination-clause-forward c = search rules
