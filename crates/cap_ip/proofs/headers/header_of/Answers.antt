use Rattle.std.proofs.Common.{arith}
use Rattle.cap_ip.specs.Read.{fields_of}
use Rattle.cap_ip.proofs.Shapes.{IsWellFormed-fields_of}
use Rattle.cap_ip.proofs.headers.header_of.Goals as goal

pub invariant_of-result : goal.invariant_of-result
unfolding fields_of
invariant_of-result c = grind (arith, IsWellFormed-fields_of)

pub returns-clause-form : goal.returns-clause-form
unfolding fields_of
returns-clause-form c = grind (arith, IsWellFormed-fields_of)
