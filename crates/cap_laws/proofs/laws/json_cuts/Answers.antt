use Rattle.cap_laws.proofs.JsonFaults.{cut-line}
use Rattle.cap_laws.proofs.laws.json_cuts.Goals as goal

pub returns : goal.returns
returns c = cut-line
