use Rattle.cap_laws.proofs.WorkedRows.{overlapped, tagged}
use Rattle.cap_laws.proofs.laws.worked_report.Goals as goal

pub returns-clause-overlapped : goal.returns-clause-overlapped
returns-clause-overlapped c = overlapped

pub returns-clause-tagged : goal.returns-clause-tagged
returns-clause-tagged c = tagged
