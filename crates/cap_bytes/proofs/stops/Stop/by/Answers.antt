use Rattle.std.proofs.Common.{rules}
use Rattle.cap_bytes.proofs.stops.Stop.by.Goals as goal

pub returns-in-true-Accept-Cut : goal.returns-in-true-Accept-Cut
returns-in-true-Accept-Cut c = search rules
