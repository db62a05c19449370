use Rattle.std.proofs.Common.{arith}
use Rattle.cap_link.specs.Links.{raw}
use Rattle.cap_link.proofs.links.raw.Goals as goal

pub returns-then-frame-eq-VERSION_4 : goal.returns-then-frame-eq-VERSION_4
unfolding raw
returns-then-frame-eq-VERSION_4 c = grind arith
