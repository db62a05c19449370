-- A number of 64 bits has at most twenty digits.
use Rattle.std.proofs.Common.{arith, rules}
use Rattle.std.proofs.lemmas.Fmt.{length-decimal-le}
use Rattle.std.proofs.lemmas.Grind.{common_steps}
use Rattle.cap_print.proofs.lines.Line.prepend_field.Goals as goal

pub prepend_digits-requires : goal.prepend_digits-requires
prepend_digits-requires c = search (rules, length-decimal-le 20)

pub prepend_text-requires : goal.prepend_text-requires
prepend_text-requires c = search (rules, length-decimal-le 20)

pub returns-clause-room : goal.returns-clause-room
returns-clause-room c = search (rules, length-decimal-le 20)

pub returns-clause-text : goal.returns-clause-text
returns-clause-text c = grind (arith, common_steps)
