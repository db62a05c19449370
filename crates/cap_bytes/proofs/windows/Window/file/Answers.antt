use Rattle.std.proofs.Common.{rules}
use Rattle.cap_bytes.proofs.windows.Window.file.Goals as goal

pub returns : goal.returns
returns g c = search rules
