use Rattle.std.proofs.Common.{◌∙◌, rules}
use Rattle.std.proofs.lemmas.Result.{err_from_is_err_and}
use Rattle.cap_bytes.proofs.Putting.{Putting-all}
use Rattle.cap_talks.proofs.FilePrinting.{lines-more, lines-front, texts-none}
use Rattle.cap_talks.proofs.counts.files.put_each.Goals as goal

pub returns-in_err-put_all-clause-text : goal.returns-in_err-put_all-clause-text
returns-in_err-put_all-clause-text g c = λ w.
    let p = err_from_is_err_and c.from_residual.result c.from_residual.ensures.1 in
    let i = c.loop-place.invariant.putting in
    let wrote = c.in_err-put_all.ensures.bytes (i.told w) in
    let line_is = c.as_slice.ensures.value ∙ c.file_line-line.ensures in
    rw (p.1, p.2, c.in_err-put_all.ensures.fault)
    (lines-front c.args.form _ _ (g.W.Sink.held c.put_all.new.writer) c.args.counted.now c.loop-place.place
    c.index-counted-place.result c.as_slice.result.now wrote.0
    c.index-counted-place.is c.loop-place-test.true line_is i w wrote.1)

pub loop-place-preserved : goal.loop-place-preserved
loop-place-preserved g c =
    let e = c.in_ok-put_all.ensures in
    let line_is = c.as_slice.ensures.value ∙ c.file_line-line.ensures in
    record {
      failed = search rules;
      putting =
          lines-more c.args.form _ _ _ c.args.counted.now c.loop-place.place c.index-counted-place.result
          c.as_slice.result.now
          c.index-counted-place.is c.loop-place-test.true line_is c.loop-place.invariant.putting
          e.bytes e.writer.told e.writer.cannot;
    }

pub returns-clause-text : goal.returns-clause-text
returns-clause-text g c = λ w. search (Putting-all, texts-none, c.loop-place.invariant.putting, c.loop-place-test.false)
