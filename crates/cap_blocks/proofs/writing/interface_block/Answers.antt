use Rattle.std.proofs.Common.{arith}
use Rattle.cap_blocks.proofs.Parts.{interface_bytes-pieces, length-offset_option, interface_total-most}
use Rattle.cap_blocks.proofs.writing.interface_block.Goals as goal

pub add_u16-requires-5 : goal.add_u16-requires-5
add_u16-requires-5 c = grind (arith, length-offset_option, interface_total-most)

pub add_u16-requires-6 : goal.add_u16-requires-6
add_u16-requires-6 c = grind (arith, length-offset_option, interface_total-most)

pub add_u32-requires-4 : goal.add_u32-requires-4
add_u32-requires-4 c = grind (arith, length-offset_option, interface_total-most)

pub returns : goal.returns
returns c = grind (arith, interface_bytes-pieces)
