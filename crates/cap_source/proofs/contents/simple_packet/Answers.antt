use Rattle.std.proofs.Common.{arith}
use Rattle.std.proofs.lemmas.Grind.{common_steps}
use Rattle.cap_source.specs.Contents.{simple_in}
use Rattle.cap_source.proofs.contents.simple_packet.Goals as goal

pub returns-in-Some : goal.returns-in-Some
unfolding simple_in
returns-in-Some c = grind (arith, common_steps)
