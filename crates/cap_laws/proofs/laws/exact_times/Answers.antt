use Rattle.cap_laws.proofs.ExactTimes.{times-read-back}
use Rattle.cap_laws.proofs.laws.exact_times.Goals as goal

pub returns : goal.returns
returns c = times-read-back
