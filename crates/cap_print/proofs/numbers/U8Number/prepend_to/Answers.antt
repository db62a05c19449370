use Rattle.std.proofs.Common.{rules}
use Rattle.std.proofs.lemmas.Fmt.{length-decimal-le}
use Rattle.cap_print.proofs.numbers.U8Number.prepend_to.Goals as goal

pub prepend_digits-requires : goal.prepend_digits-requires
prepend_digits-requires c = search (rules, length-decimal-le 3)

pub returns-clause-room : goal.returns-clause-room
returns-clause-room c = search (rules, length-decimal-le 3)
