use Rattle.cap_laws.proofs.DiffsBut.{same-but-ignored}
use Rattle.cap_laws.proofs.laws.diff_ignoring.Goals as goal

pub returns : goal.returns
returns c = same-but-ignored
