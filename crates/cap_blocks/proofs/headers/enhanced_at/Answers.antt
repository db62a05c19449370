use Rattle.std.proofs.Common.{arith}
use Rattle.cap_blocks.specs.Split.{first_fault, block_at}
use Rattle.cap_blocks.proofs.Faults.{header_fault-fields, fields_fault-fits}
use Rattle.cap_blocks.proofs.headers.enhanced_at.Goals as goal

pub returns-clause-header : goal.returns-clause-header
unfolding first_fault block_at
returns-clause-header c = grind (arith, header_fault-fields, fields_fault-fits)
