use Rattle.std.proofs.Common.{rules}
use Rattle.cap_blocks.proofs.headers.is_section.Goals as goal

pub returns : goal.returns
returns c = search rules
