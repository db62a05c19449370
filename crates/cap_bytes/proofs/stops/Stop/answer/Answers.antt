use Rattle.std.proofs.Common.{rules}
use Rattle.cap_bytes.proofs.stops.Stop.answer.Goals as goal

pub returns-in-Refused : goal.returns-in-Refused
returns-in-Refused g c = search rules
