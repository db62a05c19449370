use Rattle.std.proofs.Common.{arith}
use Rattle.cap_blocks.specs.Split.{block_at}
use Rattle.cap_blocks.proofs.Faults.{header_fault-fields, fields_fault-short, fields_fault-unordered}
use Rattle.cap_blocks.proofs.Faults.{fields_fault-length, fields_fault-limit, fields_fault-fits}
use Rattle.cap_blocks.proofs.headers.find_block_header.Goals as goal

pub returns-then-bytes-lt-FRAME_SIZE : goal.returns-then-bytes-lt-FRAME_SIZE
returns-then-bytes-lt-FRAME_SIZE c = grind (arith, header_fault-fields, fields_fault-short)

pub returns-in_default-order_of : goal.returns-in_default-order_of
returns-in_default-order_of c = grind (arith, header_fault-fields, fields_fault-unordered)

pub returns-then-not-is_total : goal.returns-then-not-is_total
returns-then-not-is_total c = grind (arith, header_fault-fields, fields_fault-length)

pub returns-then-offset-from-gt-FILE_LIMIT : goal.returns-then-offset-from-gt-FILE_LIMIT
returns-then-offset-from-gt-FILE_LIMIT c = grind (arith, header_fault-fields, fields_fault-limit)

pub returns : goal.returns
unfolding block_at
returns c = grind (arith, header_fault-fields, fields_fault-fits)
