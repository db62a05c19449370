use Rattle.std.proofs.Common.{◌∙◌, refl, rules}
use Rattle.std.proofs.lemmas.Result.{err_from_is_err_and}
use Rattle.cap_bytes.proofs.Putting.{Putting-all}
use Rattle.cap_talks.specs.table.TalkLines.{talk_texts_in}
use Rattle.cap_talks.proofs.Ranking.{ranked-place}
use Rattle.cap_talks.proofs.TalkPrinting.{named-front, named-more, named-none}
use Rattle.cap_talks.proofs.table.talk_lines.put_named.Goals as goal

pub line_at-line-requires : goal.line_at-line-requires
line_at-line-requires g c =
    ranked-place c.args.talks.now.rows c.requires.named.0 c.args.named.now c.loop-each.each-index _ _ c.requires.named.1
    c.loop-each-test.true refl

pub returns-in_err-put_all-clause-text : goal.returns-in_err-put_all-clause-text
returns-in_err-put_all-clause-text g c = λ rows named w.
    let p = err_from_is_err_and c.from_residual.result c.from_residual.ensures.1 in
    let i = c.loop-each.invariant.putting rows named in
    let wrote = c.in_err-put_all.ensures.bytes (i.told w) in
    rw (p.1, p.2, c.in_err-put_all.ensures.fault)
    (named-front c.args.form _ _ (g.W.Sink.held c.put_all.new.writer) c.args.talks.now.rows rows c.args.named.now
    c.loop-each.each-index _ _ c.as_slice.result.now wrote.0 named refl c.loop-each-test.true
    (c.as_slice.ensures.value ∙ c.line_at-line.ensures) i w wrote.1)

pub loop-each-preserved : goal.loop-each-preserved
loop-each-preserved g c =
    let e = c.in_ok-put_all.ensures in
    record {
      failed = search rules;
      putting = λ rows named.
          named-more c.args.form _ _ _ c.args.talks.now.rows rows c.args.named.now c.loop-each.each-index _ _
          c.as_slice.result.now named refl c.loop-each-test.true
          (c.as_slice.ensures.value ∙ c.line_at-line.ensures) (c.loop-each.invariant.putting rows named)
          e.bytes e.writer.told e.writer.cannot;
    }

pub returns-clause-text : goal.returns-clause-text
returns-clause-text g c = λ rows named w. (
  refl,
  Putting-all _ _ (talk_texts_in c.args.form rows) _ (c.loop-each.invariant.putting rows named)
      (named-none c.args.form c.args.talks.now.rows rows c.args.named.now c.loop-each.each-index named
      c.loop-each-test.false) w,
)
