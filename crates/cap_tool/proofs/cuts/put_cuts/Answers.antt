use Rattle.std.proofs.Common.{◌≡◌, ◌+◌, ◌++◌, [], ◌∷◌, length, map, ap, subst, arith, rules}
use Rattle.std.proofs.lemmas.List.{nil_from_length}
use Rattle.std.proofs.lemmas.Result.{err_from_is_err_and}
use Rattle.cap_bytes.proofs.Putting.{Putting, Putting-all, Putting-front}
use Rattle.cap_commands.proofs.Pieces.{Putting-line, Puts-err}
use Rattle.cap_tool.specs.Cuts.{cut_line_if, cut_lines}
use Rattle.cap_tool.proofs.cuts.put_cuts.Goals as goal

pub returns-in_err-put_cut-clause-text : goal.returns-in_err-put_cut-clause-text
returns-in_err-put_cut-clause-text g c = λ t.
    let p = err_from_is_err_and c.from_residual.result c.from_residual.ensures.1 in
    let i = c.loop-cut.invariant in
    let paths = map (λ p. p.now) c.args.paths.now in
    let whole = cut_lines c.args.form paths 1 c.args.cuts.now in
    let line = cut_line_if c.args.form paths c.loop-cut.file c.in-Some.cut.now in
    let behind = cut_lines c.args.form paths (c.loop-cut.file + 1) c.in-Some.others.now in
    let parts : c.loop-cut.rest.now ≡ c.in-Some.cut.now ∷ c.in-Some.others.now = search rules in
    let wrote = c.in_err-put_cut.ensures.text (i.0.told t) in
    Puts-err _ _ whole c.from_residual.result p.0 p.1
    (Putting-front _ _ _ whole line behind wrote.0
    (subst (Putting _ _ whole) (ap (cut_lines c.args.form paths c.loop-cut.file) parts) i.0) t wrote.1)

pub loop-cut-preserved : goal.loop-cut-preserved
loop-cut-preserved g c =
    let i = c.loop-cut.invariant in
    let paths = map (λ p. p.now) c.args.paths.now in
    let line = cut_line_if c.args.form paths c.loop-cut.file c.in-Some.cut.now in
    let behind = cut_lines c.args.form paths (c.loop-cut.file + 1) c.in-Some.others.now in
    let parts : c.loop-cut.rest.now ≡ c.in-Some.cut.now ∷ c.in-Some.others.now = search rules in
    let e = c.in_ok-put_cut.ensures in (
      Putting-line _ _ _ (cut_lines c.args.form paths 1 c.args.cuts.now)
          (cut_lines c.args.form paths c.loop-cut.file c.loop-cut.rest.now) line behind i.0
          (ap (cut_lines c.args.form paths c.loop-cut.file) parts) e.text e.writer.told e.writer.cannot,
      search rules,
      omega (arith, i.2, ap length parts),
    )

pub returns-clause-text : goal.returns-clause-text
returns-clause-text g c = λ t.
    let i = c.loop-cut.invariant in
    let paths = map (λ p. p.now) c.args.paths.now in
    let none : c.loop-cut.rest.now ≡ [] = nil_from_length c.loop-cut.rest.now c.in_default.ensures.cases in
    Putting-all _ _ (cut_lines c.args.form paths 1 c.args.cuts.now)
    (cut_lines c.args.form paths c.loop-cut.file c.loop-cut.rest.now) i.0
    (ap (cut_lines c.args.form paths c.loop-cut.file) none) t
