use Rattle.std.proofs.Common.{arith}
use Rattle.cap_commands.proofs.BlockWalking.{fails-walked}
use Rattle.cap_commands.proofs.blocks.blocks_in.Goals as goal

pub returns-clause-read : goal.returns-clause-read
returns-clause-read g c = grind (arith, fails-walked, c.print_blocks.ensures.walks)
