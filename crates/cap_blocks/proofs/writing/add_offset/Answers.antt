use Rattle.std.proofs.Common.{rules}
use Rattle.cap_blocks.proofs.writing.add_offset.Goals as goal

pub returns-else-seconds-ne0-clause-bytes : goal.returns-else-seconds-ne0-clause-bytes
returns-else-seconds-ne0-clause-bytes c = search rules
