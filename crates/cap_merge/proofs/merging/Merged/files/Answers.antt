use Rattle.std.proofs.Common.{arith}
use Rattle.cap_merge.proofs.Calls.{files-counted, files-numbered}
use Rattle.cap_merge.proofs.merging.Merged.files.Goals as goal

pub returns : goal.returns
returns g c = grind (arith, files-counted, files-numbered)
