use Rattle.std.proofs.Common.{rules}
use Rattle.cap_source.specs.Contents.{content_in}
use Rattle.cap_source.proofs.contents.enhanced_packet.Goals as goal

pub returns-in-Big : goal.returns-in-Big
unfolding content_in
returns-in-Big c = search rules
