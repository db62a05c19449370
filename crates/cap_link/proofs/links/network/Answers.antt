use Rattle.std.proofs.Common.{arith}
use Rattle.cap_link.specs.Links.{network_of}
use Rattle.cap_link.proofs.links.network.Goals as goal

pub returns-in-276 : goal.returns-in-276
unfolding network_of
returns-in-276 c = grind arith
