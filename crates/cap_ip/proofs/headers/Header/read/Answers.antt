use Rattle.std.proofs.Common.{arith}
use Rattle.cap_ip.specs.Read.{IsShapedPacket}
use Rattle.cap_ip.proofs.Shapes.{IfFound-ended, IsShaped-found}
use Rattle.cap_ip.proofs.headers.Header.read.Goals as goal

pub returns-then-bytes-from-clause-shaped : goal.returns-then-bytes-from-clause-shaped
returns-then-bytes-from-clause-shaped c = rw c.ended.ensures (IfFound-ended c.args.captured_whole IsShapedPacket)

pub returns-then-bytes-from-2-clause-shaped : goal.returns-then-bytes-from-2-clause-shaped
returns-then-bytes-from-2-clause-shaped c = grind (arith, IfFound-ended)

pub returns-clause-shaped : goal.returns-clause-shaped
returns-clause-shaped c = grind (arith, IsShaped-found)
