use Rattle.std.proofs.Common.{rules}
use Rattle.cap_source.proofs.packets.Meta.time.Goals as goal

pub returns-in-Some-clause-time : goal.returns-in-Some-clause-time
returns-in-Some-clause-time c = search rules
