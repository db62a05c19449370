use Rattle.std.proofs.Common.{rules}
use Rattle.cap_blocks.proofs.options.behind_padding.Goals as goal

pub returns-else-bytes-end : goal.returns-else-bytes-end
returns-else-bytes-end c = search rules
