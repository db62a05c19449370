use Rattle.cap_laws.proofs.Written.{merged-report}
use Rattle.cap_laws.proofs.laws.merged_report.Goals as goal

pub returns : goal.returns
returns c = merged-report c.merged_again.ensures.files
