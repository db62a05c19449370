use Rattle.cap_laws.proofs.Written.{pcapng-run}
use Rattle.cap_laws.proofs.laws.pcapng_run.Goals as goal

pub returns : goal.returns
returns c = pcapng-run c.pcapng_again.ensures
