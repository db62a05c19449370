use Rattle.std.proofs.Common.{rules}
use Rattle.cap_bytes.proofs.windows.Window.offset.Goals as goal

pub returns-clause-value : goal.returns-clause-value
returns-clause-value g c = search rules
