use Rattle.std.proofs.Common.{rules}
use Rattle.cap_blocks.proofs.options.Options.new.Goals as goal

pub returns : goal.returns
returns c = search rules
