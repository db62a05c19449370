use Rattle.std.proofs.Common.{◌∙◌, ◌<◌, ◌≤◌, length, refl, arith, rules}
use Rattle.std.proofs.lemmas.Result.{err_from_is_err_and}
use Rattle.cap_bytes.proofs.Putting.{Putting-all}
use Rattle.cap_talks.specs.table.TalkLines.{talk_texts_in}
use Rattle.cap_talks.proofs.TalkPrinting.{line-more, line-front, lines-none}
use Rattle.cap_talks.proofs.table.talk_lines.put_each.Goals as goal

pub returns-in_err-put_all-clause-text : goal.returns-in_err-put_all-clause-text
returns-in_err-put_all-clause-text g c = λ w.
    let p = err_from_is_err_and c.from_residual.result c.from_residual.ensures.1 in
    let i = c.loop-place.invariant.putting in
    let wrote = c.in_err-put_all.ensures.bytes (i.told w) in
    let within : c.loop-place.place < length c.args.talks.now.rows =
    omega (arith, c.loop-place-test.true, c.len-place-end.ensures.value) in
    rw (p.1, p.2, c.in_err-put_all.ensures.fault)
    (line-front c.args.form _ _ (g.W.Sink.held c.put_all.new.writer) c.args.talks.now.rows c.loop-place.place
    c.as_slice.result.now wrote.0
    within (c.as_slice.ensures.value ∙ c.line_at-line.ensures) i w wrote.1)

pub loop-place-preserved : goal.loop-place-preserved
loop-place-preserved g c =
    let e = c.in_ok-put_all.ensures in
    let within : c.loop-place.place < length c.args.talks.now.rows =
    omega (arith, c.loop-place-test.true, c.len-place-end.ensures.value) in
    record {
      failed = search rules;
      putting =
          line-more c.args.form _ _ _ c.args.talks.now.rows c.loop-place.place c.as_slice.result.now
          within (c.as_slice.ensures.value ∙ c.line_at-line.ensures) c.loop-place.invariant.putting
          e.bytes e.writer.told e.writer.cannot;
    }

pub returns-clause-text : goal.returns-clause-text
returns-clause-text g c = λ w.
    let past : length c.args.talks.now.rows ≤ c.loop-place.place =
    omega (arith, c.loop-place-test.false, c.len-place-end.ensures.value) in (
      refl,
      Putting-all _ _ (talk_texts_in c.args.form c.args.talks.now.rows) _ c.loop-place.invariant.putting
          (lines-none c.args.form c.args.talks.now.rows c.loop-place.place past) w,
    )
