use Rattle.std.proofs.Common.{◌≡◌, ◌∙◌}
use Rattle.std.proofs.lemmas.Result.{err_from_is_err_and}
use Rattle.cap_bytes.proofs.Putting.{Puts-first, Puts-second}
use Rattle.cap_print.specs.Facts.{end_in}
use Rattle.cap_check.proofs.lines.put_line_end.Goals as goal

pub returns-in_err-put_all-clause-text : goal.returns-in_err-put_all-clause-text
returns-in_err-put_all-clause-text g c =
    let p = err_from_is_err_and c.from_residual.result c.from_residual.ensures.1 in
    rw p.1
    (λ t. Puts-first (Unit {0}) _ _ c.args.name.now (end_in c.args.form) c.in_err-put_all.field-0.0
    (c.in_err-put_all.ensures.bytes t))

pub returns-clause-text : goal.returns-clause-text
returns-clause-text g c = λ t.
    let end_is : c.as_slice.result.now ≡ end_in c.args.form = c.as_slice.ensures.value ∙ c.end-end.ensures.text in
    Puts-second (Unit {0}) _ (g.W.Sink.held c.put_all.new.writer) _ c.args.name.now (end_in c.args.form)
    c.put_all-2.result (c.in_ok-put_all.ensures.bytes t)
    (rw end_is at (c.put_all-2.ensures.bytes (c.in_ok-put_all.ensures.writer.told t)))
