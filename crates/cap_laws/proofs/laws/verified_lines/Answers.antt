use Rattle.cap_laws.proofs.VerifiedLines.{verifies-as-same}
use Rattle.cap_laws.proofs.laws.verified_lines.Goals as goal

pub returns : goal.returns
returns c = verifies-as-same
