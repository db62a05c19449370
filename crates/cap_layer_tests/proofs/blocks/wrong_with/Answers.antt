use Rattle.std.proofs.Common.{Some}
use Rattle.cap_blocks.proofs.Looking.{IsHeader-parsed}
use Rattle.cap_bytes.specs.declared.numbers.Order.TheVariants.{Little}
use Rattle.cap_layer_tests.proofs.blocks.wrong_with.Goals as goal

pub rest_of-requires : goal.rest_of-requires
rest_of-requires c =
    IsHeader-parsed (Some Little) c.args.offset c.args.bytes.now c.in-Ok.block
    (rw c.in-Ok.is at c.find_block_header.ensures)
