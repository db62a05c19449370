use Rattle.std.proofs.Common.{rules}
use Rattle.cap_talks.proofs.table.rows.is_earlier.Goals as goal

pub returns-in-Greater : goal.returns-in-Greater
returns-in-Greater c = search rules
