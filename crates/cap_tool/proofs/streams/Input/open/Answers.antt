use Rattle.std.proofs.Common.{rules}
use Rattle.cap_tool.proofs.streams.Input.open.Goals as goal

pub returns-then-eq-clause-standard : goal.returns-then-eq-clause-standard
returns-then-eq-clause-standard c = search rules

pub returns-then-eq-clause-which : goal.returns-then-eq-clause-which
returns-then-eq-clause-which g c = search rules

pub returns-in_err-open-clause-standard : goal.returns-in_err-open-clause-standard
returns-in_err-open-clause-standard g c = search rules

pub returns-in_err-open-clause-fault : goal.returns-in_err-open-clause-fault
returns-in_err-open-clause-fault g c = search rules
