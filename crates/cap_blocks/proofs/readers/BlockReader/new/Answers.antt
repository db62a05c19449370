use Rattle.std.proofs.Common.{rules}
use Rattle.cap_blocks.proofs.readers.BlockReader.new.Goals as goal

pub returns-clause-opened : goal.returns-clause-opened
returns-clause-opened g c = search rules
