use Rattle.std.proofs.Common.{rules}
use Rattle.cap_bytes.proofs.faults.Rule.name.Goals as goal

pub returns-in-OrderMagic : goal.returns-in-OrderMagic
returns-in-OrderMagic c = search rules
