use Rattle.cap_laws.proofs.Written.{pcapng-report}
use Rattle.cap_laws.proofs.laws.pcapng_report.Goals as goal

pub returns : goal.returns
returns c = pcapng-report c.pcapng_again.ensures
