use Rattle.std.proofs.Common.{◌≡◌, [], ◌∷◌, ap, subst, rules}
use Rattle.std.proofs.lemmas.List.{nil_from_length}
use Rattle.std.proofs.lemmas.Result.{err_from_is_err_and}
use Rattle.cap_bytes.proofs.Putting.{Putting, Putting-all, Putting-front}
use Rattle.cap_commands.proofs.Pieces.{Putting-line, Puts-err}
use Rattle.cap_commands.specs.Skipping.{left_out_if, left_out_lines}
use Rattle.cap_commands.proofs.skipping.put_left_out.Goals as goal

pub returns-in_err-put_left_out_if-clause-text : goal.returns-in_err-put_left_out_if-clause-text
returns-in_err-put_left_out_if-clause-text g c = λ t.
    let p = err_from_is_err_and c.from_residual.result c.from_residual.ensures.1 in
    let i = c.loop-refusal.invariant in
    let whole = left_out_lines c.args.form c.args.refusals.now in
    let line = left_out_if c.args.form c.in-Some.refusal.now in
    let behind = left_out_lines c.args.form c.in-Some.others.now in
    let parts : c.loop-refusal.rest.now ≡ c.in-Some.refusal.now ∷ c.in-Some.others.now = search rules in
    let wrote = c.in_err-put_left_out_if.ensures.text (i.0.told t) in
    Puts-err _ _ whole c.from_residual.result p.0 p.1
    (Putting-front _ _ _ whole line behind wrote.0
    (subst (Putting _ _ whole) (ap (left_out_lines c.args.form) parts) i.0) t wrote.1)

pub loop-refusal-preserved : goal.loop-refusal-preserved
loop-refusal-preserved g c =
    let i = c.loop-refusal.invariant in
    let line = left_out_if c.args.form c.in-Some.refusal.now in
    let behind = left_out_lines c.args.form c.in-Some.others.now in
    let parts : c.loop-refusal.rest.now ≡ c.in-Some.refusal.now ∷ c.in-Some.others.now = search rules in
    let e = c.in_ok-put_left_out_if.ensures in (
      Putting-line _ _ _ (left_out_lines c.args.form c.args.refusals.now)
          (left_out_lines c.args.form c.loop-refusal.rest.now) line behind i.0
          (ap (left_out_lines c.args.form) parts) e.text e.writer.told e.writer.cannot,
      search rules,
    )

pub returns-clause-text : goal.returns-clause-text
returns-clause-text g c = λ t.
    let i = c.loop-refusal.invariant in
    let none : c.loop-refusal.rest.now ≡ [] = nil_from_length c.loop-refusal.rest.now c.in_default.ensures.cases in
    Putting-all _ _ (left_out_lines c.args.form c.args.refusals.now)
    (left_out_lines c.args.form c.loop-refusal.rest.now) i.0
    (ap (left_out_lines c.args.form) none) t
