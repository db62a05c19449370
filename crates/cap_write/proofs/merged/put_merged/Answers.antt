use Rattle.std.proofs.Common.{arith}
use Rattle.std.proofs.lemmas.Result.{err_from_is_err_and}
use Rattle.cap_bytes.proofs.Putting.{Prints-head, Prints-behind}
use Rattle.cap_write.proofs.merged.put_merged.Goals as goal

pub returns-in_err-put_section-clause-text : goal.returns-in_err-put_section-clause-text
returns-in_err-put_section-clause-text g c = grind (arith, err_from_is_err_and, Prints-head)

pub returns-clause-text : goal.returns-clause-text
returns-clause-text g c = grind (arith, Prints-behind)
