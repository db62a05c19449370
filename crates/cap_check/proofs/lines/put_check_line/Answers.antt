use Rattle.std.proofs.Common.{◌++◌}
use Rattle.std.proofs.lemmas.Result.{err_from_is_err_and}
use Rattle.cap_bytes.proofs.Putting.{Puts-first, Puts-second}
use Rattle.cap_print.specs.Facts.{end_in}
use Rattle.cap_check.proofs.Parts.{line-parts}
use Rattle.cap_check.specs.inner.Parts.{unnamed_in}
use Rattle.cap_check.proofs.lines.put_check_line.Goals as goal

pub returns-in_err-put_fields-clause-text : goal.returns-in_err-put_fields-clause-text
returns-in_err-put_fields-clause-text g c =
    let p = err_from_is_err_and c.from_residual.result c.from_residual.ensures.1 in
    let a = c.args in
    rw (p.1, line-parts a.which a.form a.file a.name.now a.check.now)
    (λ t. Puts-first (Unit {0}) _ _ (unnamed_in a.which a.form a.file a.check.now) (a.name.now ++ end_in a.form)
    c.in_err-put_fields.field-0.0 (c.in_err-put_fields.ensures.text t))

pub returns-clause-text : goal.returns-clause-text
returns-clause-text g c = λ t.
    let a = c.args in
    rw (line-parts a.which a.form a.file a.name.now a.check.now)
    (Puts-second (Unit {0}) _ (g.W.Sink.held c.put_fields.new.writer) _ (unnamed_in a.which a.form a.file a.check.now)
    (a.name.now ++ end_in a.form) c.put_line_end.result (c.in_ok-put_fields.ensures.text t)
    (c.put_line_end.ensures.text (c.in_ok-put_fields.ensures.writer.told t)))
