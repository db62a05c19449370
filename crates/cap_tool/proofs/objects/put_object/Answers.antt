use Rattle.std.proofs.Common.{arith}
use Rattle.std.proofs.lemmas.Result.{err_from_is_err_and}
use Rattle.cap_bytes.proofs.Putting.{Puts-first, Puts-second}
use Rattle.cap_tool.proofs.objects.put_object.Goals as goal

pub returns-in_err-put_all-clause-text : goal.returns-in_err-put_all-clause-text
returns-in_err-put_all-clause-text g c =
    let p = err_from_is_err_and c.from_residual.result c.from_residual.ensures.1 in
    rw p.1
    (λ t. Puts-first (Unit {0}) _ _ _ _ c.in_err-put_all.field-0.0 (c.in_err-put_all.ensures.bytes t))

pub returns-clause-text : goal.returns-clause-text
returns-clause-text g c = grind (arith, Puts-second)
