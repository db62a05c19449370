use Rattle.cap_laws.proofs.JsonFaults.{hint-line, list-line, open-line, read-line, refused-line}
use Rattle.cap_laws.proofs.laws.json_faults.Goals as goal

pub returns-clause-refused : goal.returns-clause-refused
returns-clause-refused c = refused-line

pub returns-clause-failed : goal.returns-clause-failed
returns-clause-failed c = read-line

pub returns-clause-unopened : goal.returns-clause-unopened
returns-clause-unopened c = open-line

pub returns-clause-listed : goal.returns-clause-listed
returns-clause-listed c = list-line

pub returns-clause-explained : goal.returns-clause-explained
returns-clause-explained c = hint-line
