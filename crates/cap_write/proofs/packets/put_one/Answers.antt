use Rattle.std.proofs.Common.{rules}
use Rattle.std.proofs.lemmas.Result.{err_from_is_err_and}
use Rattle.cap_write.proofs.Written.{Prints-untimed, Prints-unnumbered}
use Rattle.cap_write.specs.inner.Interfaces.{origins_of}
use Rattle.cap_write.proofs.packets.put_one.Goals as goal

pub returns-in_err-units-clause-text : goal.returns-in_err-units-clause-text
returns-in_err-units-clause-text g c =
    let p = err_from_is_err_and c.from_residual.result c.from_residual.ensures.1 in
    rw (p.1, p.2)
    (λ t. Prints-untimed c.args.order (origins_of c.args.origins.now) c.args.meta.now c.args.frame.now _
    c.in_err-units.field-0.0 c.in_err-units.ensures.answer)

pub returns-clause-text : goal.returns-clause-text
returns-clause-text g c = search rules

pub returns-in_err-number-clause-text : goal.returns-in_err-number-clause-text
returns-in_err-number-clause-text g c =
    let p = err_from_is_err_and c.from_residual-in_err-number.result c.from_residual-in_err-number.ensures.1 in
    rw (p.1, p.2) (λ t. Prints-unnumbered _ _ _ _ _ _ c.in_err-number.field-0.0 c.in_err-number.ensures.answer)
