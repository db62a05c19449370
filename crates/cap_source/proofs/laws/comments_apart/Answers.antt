use Rattle.cap_source.proofs.Commenting.{comments-law}
use Rattle.cap_source.proofs.laws.comments_apart.Goals as goal

pub returns : goal.returns
returns c = comments-law
