use Rattle.cap_laws.proofs.Sums.{lone-law, sums-law}
use Rattle.cap_laws.proofs.laws.report_sums.Goals as goal

pub returns-clause-sums : goal.returns-clause-sums
returns-clause-sums c = sums-law

pub returns-clause-alone : goal.returns-clause-alone
returns-clause-alone c = lone-law
