use Rattle.std.proofs.Common.{rules}
use Rattle.cap_write.proofs.interfaces.units_of.Goals as goal

pub returns-in-None : goal.returns-in-None
returns-in-None c = search rules
