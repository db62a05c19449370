use Rattle.std.proofs.Common.{arith}
use Rattle.std.proofs.lemmas.Result.{err_from_is_err_and}
use Rattle.cap_bytes.proofs.Putting.{Puts-first, Puts-second}
use Rattle.cap_write.proofs.packets.put_writable.Goals as goal

pub returns-in_err-put_new_interface-clause-bytes : goal.returns-in_err-put_new_interface-clause-bytes
returns-in_err-put_new_interface-clause-bytes g c = grind (arith, err_from_is_err_and, Puts-first)

pub returns-clause-bytes : goal.returns-clause-bytes
returns-clause-bytes g c = grind (arith, Puts-second)
