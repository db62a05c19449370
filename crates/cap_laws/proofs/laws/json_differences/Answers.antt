use Rattle.cap_laws.proofs.JsonDifferences.{differ-line, side-line}
use Rattle.cap_laws.proofs.laws.json_differences.Goals as goal

pub returns-clause-differ : goal.returns-clause-differ
returns-clause-differ c = differ-line

pub returns-clause-side : goal.returns-clause-side
returns-clause-side c = side-line
