use Rattle.cap_laws.proofs.Totals.{totals-law}
use Rattle.cap_laws.proofs.laws.report_totals.Goals as goal

pub returns : goal.returns
returns c = totals-law
