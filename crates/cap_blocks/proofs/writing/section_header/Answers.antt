use Rattle.std.proofs.Common.{arith}
use Rattle.cap_blocks.proofs.Parts.{section_bytes-pieces}
use Rattle.cap_blocks.proofs.writing.section_header.Goals as goal

pub returns : goal.returns
returns c = grind (arith, section_bytes-pieces)
