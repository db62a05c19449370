use Rattle.cap_laws.proofs.Rounds.{rounds-in-bytes}
use Rattle.cap_laws.proofs.laws.rounds_bytes.Goals as goal

pub returns : goal.returns
returns c = rounds-in-bytes c.merged_again.ensures.files c.rounds_law.ensures.files
