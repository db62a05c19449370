use Rattle.cap_laws.proofs.Written.{merged-run}
use Rattle.cap_laws.proofs.laws.merged_run.Goals as goal

pub returns : goal.returns
returns c = merged-run c.merged_again.ensures.files
