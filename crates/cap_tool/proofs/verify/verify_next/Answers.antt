use Rattle.std.proofs.Common.{◌≡◌, ◌∙◌, option_map, refl, sym}
use Rattle.std.proofs.lemmas.Result.{err_from_is_err_and}
use Rattle.std.specs.Prelude.{string_bytes}
use Rattle.cap_commands.specs.Jobs.{form_by, tail_of}
use Rattle.cap_tool.proofs.Judging.{given-line, judges-line, judges-write}
use Rattle.cap_tool.specs.DigestLines.{entry_of}
use Rattle.cap_tool.specs.Verdicts.{verdict_line}
use Rattle.cap_tool.proofs.verify.verify_next.Goals as goal

pub returns-in_err-verdict-clause-text : goal.returns-in_err-verdict-clause-text
returns-in_err-verdict-clause-text g c = λ w.
    let p = err_from_is_err_and c.from_residual.result c.from_residual.ensures.1 in
    rw (p.1, p.2, c.in_err-verdict.ensures.fault) refl

pub returns-in_err-text-clause-text : goal.returns-in_err-text-clause-text
returns-in_err-text-clause-text g c = λ w.
    let p = err_from_is_err_and c.from_residual-in_err-text.result c.from_residual-in_err-text.ensures.1 in
    rw (p.1, p.2) refl

pub returns-in_err-put_all-clause-text : goal.returns-in_err-put_all-clause-text
returns-in_err-put_all-clause-text g c = λ w.
    let p = err_from_is_err_and c.from_residual-in_err-put_all.result c.from_residual-in_err-put_all.ensures.1 in
    let given = given-line (g.O.Opener.gives c.args.opener.now) (string_bytes c.args.line.now.name) _ _ _
    c.open-opened.ensures c.as_str-name.ensures.value c.reader_of.ensures in
    let judged = rw c.tail_of.ensures at c.in_ok-verdict.ensures.verdict in
    let text = rw c.form_of.ensures at (c.as_slice.ensures.value ∙ c.in_ok-text.ensures) in
    rw (p.1, p.2)
    (judges-write (g.O.Opener.gives c.args.opener.now) _ _ _ (entry_of c.args.line.now) _ _ _
    c.in_err-put_all.field-0.0 _
    c.in_ok-verdict.verdict c.in_err-put_all.ensures.fault given judged text (c.in_err-put_all.ensures.bytes w))

pub returns-clause-text : goal.returns-clause-text
returns-clause-text g c = λ w.
    let given = given-line (g.O.Opener.gives c.args.opener.now) (string_bytes c.args.line.now.name) _ _ _
    c.open-opened.ensures c.as_str-name.ensures.value c.reader_of.ensures in
    let judged = rw c.tail_of.ensures at c.in_ok-verdict.ensures.verdict in
    let text = rw c.form_of.ensures at (c.as_slice.ensures.value ∙ c.in_ok-text.ensures) in
    judges-line (g.O.Opener.gives c.args.opener.now) _ _ _ (entry_of c.args.line.now) _ _ _ _ c.in_ok-verdict.verdict
    given judged text
    (c.in_ok-put_all.ensures.bytes w)
