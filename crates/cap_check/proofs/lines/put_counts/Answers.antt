use Rattle.std.proofs.Common.{◌≡◌, ◌∙◌}
use Rattle.std.proofs.lemmas.Result.{err_from_is_err_and}
use Rattle.cap_bytes.proofs.Putting.{Puts-first, Puts-second}
use Rattle.cap_check.specs.inner.Parts.{held_in, odd_in}
use Rattle.cap_check.proofs.lines.put_counts.Goals as goal

pub returns-in_err-put_all-clause-text : goal.returns-in_err-put_all-clause-text
returns-in_err-put_all-clause-text g c =
    let p = err_from_is_err_and c.from_residual.result c.from_residual.ensures.1 in
    let a = c.args in
    let held_is : c.as_slice.result.now ≡ held_in a.form a.file a.check.now = c.as_slice.ensures.value
    ∙ c.held_part-held.ensures in
    rw p.1
    (λ t. Puts-first (Unit {0}) _ _ (held_in a.form a.file a.check.now) (odd_in a.which a.form a.check.now)
    c.in_err-put_all.field-0.0 (rw held_is at (c.in_err-put_all.ensures.bytes t)))

pub returns-clause-text : goal.returns-clause-text
returns-clause-text g c = λ t.
    let a = c.args in
    let held_is : c.as_slice.result.now ≡ held_in a.form a.file a.check.now = c.as_slice.ensures.value
    ∙ c.held_part-held.ensures in
    let odd_is : c.as_slice-2.result.now ≡ odd_in a.which a.form a.check.now = c.as_slice-2.ensures.value
    ∙ c.odd_part-odd.ensures in
    Puts-second (Unit {0}) _ (g.W.Sink.held c.put_all.new.writer) _ (held_in a.form a.file a.check.now)
    (odd_in a.which a.form a.check.now) c.put_all-2.result (rw held_is at (c.in_ok-put_all.ensures.bytes t))
    (rw odd_is at (c.put_all-2.ensures.bytes (c.in_ok-put_all.ensures.writer.told t)))
