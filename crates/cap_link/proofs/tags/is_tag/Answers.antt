use Rattle.std.proofs.Common.{rules}
use Rattle.cap_link.specs.Tags.{is_tag}
use Rattle.cap_link.proofs.tags.is_tag.Goals as goal

pub returns-else-kind-eq-C_TAG : goal.returns-else-kind-eq-C_TAG
unfolding is_tag
returns-else-kind-eq-C_TAG c = search rules
