use Rattle.std.proofs.Common.{rules}
use Rattle.cap_link.specs.Tags.{ended_in_link}
use Rattle.cap_link.proofs.tags.ended.Goals as goal

pub returns-then-whole : goal.returns-then-whole
unfolding ended_in_link
returns-then-whole c = search rules
