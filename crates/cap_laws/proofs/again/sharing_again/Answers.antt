use Rattle.cap_laws.proofs.again.MergedFiles.{sharing-law}
use Rattle.cap_laws.proofs.again.sharing_again.Goals as goal

pub returns : goal.returns
returns c = sharing-law
