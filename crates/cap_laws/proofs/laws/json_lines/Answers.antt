use Rattle.cap_laws.proofs.JsonLines.{lines-read-back, named-line, object-line}
use Rattle.cap_laws.proofs.JsonValues.{values-read-back}
use Rattle.cap_laws.proofs.laws.json_lines.Goals as goal

pub returns-clause-line : goal.returns-clause-line
returns-clause-line c = object-line

pub returns-clause-named : goal.returns-clause-named
returns-clause-named c = named-line

pub returns-clause-values : goal.returns-clause-values
returns-clause-values c = values-read-back

pub returns-clause-lines : goal.returns-clause-lines
returns-clause-lines c = lines-read-back
