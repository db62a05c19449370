use Rattle.std.proofs.Common.{rules}
use Rattle.cap_commands.proofs.blocks.take_block.Goals as goal

pub returns-in-None-clause-answer : goal.returns-in-None-clause-answer
returns-in-None-clause-answer g c = search rules
