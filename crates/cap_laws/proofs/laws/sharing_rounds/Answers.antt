use Rattle.cap_laws.proofs.Rounds.{sharing_rounds-in-bytes}
use Rattle.cap_laws.proofs.laws.sharing_rounds.Goals as goal

pub returns : goal.returns
returns c = sharing_rounds-in-bytes c.sharing_again.ensures
