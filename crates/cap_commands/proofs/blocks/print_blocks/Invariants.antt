use Rattle.std.proofs.Common.{◌-◌, ◌^◌}
use Rattle.cap_commands.proofs.BlockListing.{Printing}
use Rattle.cap_commands.specs.BlockText.{block_line}
use Rattle.cap_commands.proofs.blocks.print_blocks.Given as goal

-- the lines of the blocks that were given are written, and those of the others are to be
abbrev pub invariant-loop-block : goal.invariant-loop-block
invariant-loop-block g l =
    Printing (block_line l.form) l.fn.reader l.reader (g.W.Device.has_failed l.fn.writer)
    (g.W.Device.has_failed l.writer)
    (record {
      told = g.W.Sink.tells_held l.fn.writer;
      held = g.W.Sink.held l.fn.writer;
      failed = g.W.Device.has_failed l.fn.writer;
      can_fail = g.W.Device.can_fail l.fn.writer;
    })
    (record {
      told = g.W.Sink.tells_held l.writer;
      held = g.W.Sink.held l.writer;
      failed = g.W.Device.has_failed l.writer;
      can_fail = g.W.Device.can_fail l.writer;
    })
    l.n

abbrev pub decreases-loop-block : goal.decreases-loop-block
decreases-loop-block g l = 2 ^ 40 - l.reader.offset
