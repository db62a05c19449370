use Rattle.std.proofs.Common.{rules}
use Rattle.cap_blocks.proofs.blocks.is_known.Goals as goal

pub returns-in_default : goal.returns-in_default
returns-in_default c = search rules
