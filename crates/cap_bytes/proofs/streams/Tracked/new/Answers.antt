use Rattle.std.proofs.Common.{rules}
use Rattle.cap_bytes.proofs.streams.Tracked.new.Goals as goal

pub returns-clause-fresh : goal.returns-clause-fresh
returns-clause-fresh g c = search rules
