use Rattle.cap_link.proofs.TagsLaw.{tags-law}
use Rattle.cap_link.proofs.links.tags_law.Goals as goal

pub returns : goal.returns
returns c = tags-law
