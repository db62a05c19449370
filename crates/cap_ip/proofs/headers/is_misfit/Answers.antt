use Rattle.std.proofs.Common.{arith}
use Rattle.cap_ip.specs.Read.{is_misfit}
use Rattle.cap_ip.proofs.headers.is_misfit.Goals as goal

pub returns-else-length-ne0 : goal.returns-else-length-ne0
unfolding is_misfit
returns-else-length-ne0 c = grind arith
