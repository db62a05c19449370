use Rattle.cap_laws.proofs.Diffs.{same-exactly}
use Rattle.cap_laws.proofs.laws.diff_same.Goals as goal

pub returns : goal.returns
returns c = same-exactly
