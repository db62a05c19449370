use Rattle.std.proofs.Common.{arith, refl}
use Rattle.std.proofs.lemmas.List.{length-map}
use Rattle.std.proofs.lemmas.Result.{err_from_is_err_and}
use Rattle.cap_tool.proofs.CheckedFiles.{named-fault, named-more, named-none}
use Rattle.cap_tool.proofs.checks.check_named.Goals as goal

pub loop-place-init : goal.loop-place-init
loop-place-init g c = record {
  within = omega arith;
  failed = refl;
  told = λ t. t;
  cannot = λ f. f;
  printed = λ w. named-none _ _ _ _ _ _ _ _;
}

pub returns-in_err-are_whole-clause-text : goal.returns-in_err-are_whole-clause-text
returns-in_err-are_whole-clause-text g c = λ w.
    let p = err_from_is_err_and c.from_residual.result c.from_residual.ensures.1 in
    let i = c.loop-place.invariant in
    let same = length-map c.args.names.now (λ n. n.now) in
    rw (p.1, p.2)
    (named-fault _ _ _ _ _ _ _ c.loop-place.place c.loop-place.are_whole c.in_err-are_whole.field-0.0 _ _ _
    (omega (arith, c.loop-place-test.true, same)) (i.printed w) (c.in_err-are_whole.ensures.text (i.told w)))

pub loop-place-preserved : goal.loop-place-preserved
loop-place-preserved g c =
    let i = c.loop-place.invariant in
    let e = c.in_ok-are_whole.ensures in
    let same = length-map c.args.names.now (λ n. n.now) in
    record {
      within = omega (arith, c.loop-place-test.true);
      failed = grind (arith, e.writer.failed, i.failed);
      told = λ w. e.writer.told (i.told w);
      cannot = λ f. i.cannot (e.writer.cannot f);
      printed = λ w.
          named-more _ _ _ _ _ _ _ c.loop-place.place c.loop-place.are_whole _ _ _ _
          (omega (arith, c.loop-place-test.true, same)) (i.printed w) (e.text (i.told w));
    }
