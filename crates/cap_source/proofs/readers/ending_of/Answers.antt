use Rattle.std.proofs.Common.{rules}
use Rattle.cap_source.proofs.readers.ending_of.Goals as goal

pub returns : goal.returns
returns c = search rules
