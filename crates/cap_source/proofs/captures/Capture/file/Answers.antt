use Rattle.std.proofs.Common.{rules}
use Rattle.cap_source.proofs.captures.Capture.file.Goals as goal

pub returns : goal.returns
returns g c = search rules
