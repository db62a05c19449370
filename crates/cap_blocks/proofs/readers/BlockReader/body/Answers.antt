use Rattle.std.proofs.Common.{rules}
use Rattle.cap_blocks.proofs.readers.BlockReader.body.Goals as goal

pub returns : goal.returns
returns c = search rules
