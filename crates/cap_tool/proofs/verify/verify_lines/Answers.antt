use Rattle.std.proofs.Common.{◌≡◌, get_or, map, arith, refl}
use Rattle.std.proofs.lemmas.List.{get_or-map, length-map}
use Rattle.std.proofs.lemmas.Result.{err_from_is_err_and}
use Rattle.cap_tool.proofs.Judging.{judged-all, judged-fault, judged-more, judged-none, no_entry}
use Rattle.cap_tool.specs.DigestLines.{entry_of}
use Rattle.cap_tool.proofs.verify.verify_lines.Goals as goal

pub loop-place-init : goal.loop-place-init
loop-place-init g c = record {
  within = omega arith;
  failed = refl;
  told = λ t. t;
  cannot = λ f. f;
  judged = λ w. judged-none _ _ _ _ _ _;
}

pub returns-in_err-verdict-clause-text : goal.returns-in_err-verdict-clause-text
returns-in_err-verdict-clause-text g c = λ w.
    let p = err_from_is_err_and c.from_residual.result c.from_residual.ensures.1 in
    let i = c.loop-place.invariant in
    let lines = c.args.lines.now in
    let place = c.loop-place.place in
    let same = length-map lines entry_of in
    let is = c.index-lines-place.is in
    let there = get_or-map entry_of lines place c.index-lines-place.result no_entry
    (omega (arith, c.loop-place-test.true)) in
    let at : entry_of c.index-lines-place.result ≡ get_or (map entry_of lines) place no_entry = cc in
    rw (p.1, p.2)
    (judged-fault _ _ _ _ (map entry_of lines) (entry_of c.index-lines-place.result) no_entry place c.loop-place.found
    c.in_err-verdict.field-0.0 _ _ _ (omega (arith, c.loop-place-test.true, same)) at (i.judged w)
    (c.in_err-verdict.ensures.text (i.told w)))

pub loop-place-preserved : goal.loop-place-preserved
loop-place-preserved g c =
    let i = c.loop-place.invariant in
    let e = c.in_ok-verdict.ensures in
    let lines = c.args.lines.now in
    let place = c.loop-place.place in
    let same = length-map lines entry_of in
    let is = c.index-lines-place.is in
    let there = get_or-map entry_of lines place c.index-lines-place.result no_entry
    (omega (arith, c.loop-place-test.true)) in
    let at : entry_of c.index-lines-place.result ≡ get_or (map entry_of lines) place no_entry = cc in
    record {
      within = omega (arith, c.loop-place-test.true);
      failed = grind (arith, e.writer.failed, i.failed);
      told = λ w. e.writer.told (i.told w);
      cannot = λ f. i.cannot (e.writer.cannot f);
      judged = λ w.
          rw c.worst_of-found.ensures
          (judged-more _ _ _ _ (map entry_of lines) (entry_of c.index-lines-place.result) no_entry place
          c.loop-place.found _ _ _ _ (omega (arith, c.loop-place-test.true, same)) at (i.judged w)
          (e.text (i.told w)));
    }

pub returns-clause-text : goal.returns-clause-text
returns-clause-text g c = λ w.
    let i = c.loop-place.invariant in
    let same = length-map c.args.lines.now entry_of in
    judged-all _ _ _ _ (map entry_of c.args.lines.now) c.loop-place.place c.loop-place.found _ _
    (omega (arith, i.within, c.loop-place-test.false, same)) (i.judged w)
