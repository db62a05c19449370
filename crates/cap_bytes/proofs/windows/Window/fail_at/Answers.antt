use Rattle.std.proofs.Common.{rules}
use Rattle.cap_bytes.proofs.windows.Window.fail_at.Goals as goal

pub returns : goal.returns
returns g c = search rules
