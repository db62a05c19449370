use Rattle.std.proofs.Common.{◌≡◌, ◌++◌, ◌∙◌, sym, ap, subst, append-nil, rules}
use Rattle.std.proofs.lemmas.Result.{err_from_is_err_and}
use Rattle.hex.specs.Hex.{encode_lower}
use Rattle.cap_bytes.proofs.Putting.{Putting, Putting-front}
use Rattle.cap_commands.proofs.Pieces.{Putting-line, Puts-err, Puts-last, rest-piece}
use Rattle.cap_commands.specs.inner.PacketParts.{packet_rest}
use Rattle.cap_commands.proofs.list.put_rest.Goals as goal

pub returns-in_err-put_all-clause-bytes : goal.returns-in_err-put_all-clause-bytes
returns-in_err-put_all-clause-bytes g c = λ t.
    let p = err_from_is_err_and c.from_residual.result c.from_residual.ensures.1 in
    let i = c.loop-rest.invariant.0 in
    let piece = c.split_at.result.0.now in
    let others = c.split_at.result.1.now in
    let parts : c.loop-rest.rest.now ≡ piece ++ others = search rules in
    let line_is : c.as_slice.result.now ≡ encode_lower piece =
    c.as_slice.ensures.value ∙ (c.prepend_hex.ensures.text ∙ (ap (λ l. encode_lower piece ++ l) c.clear.ensures.text
    ∙ append-nil (encode_lower piece))) in
    let wrote = c.in_err-put_all.ensures.bytes (i.told t) in
    Puts-err _ _ (packet_rest c.args.form c.args.behind.now c.args.bytes.now) c.from_residual.result p.0 p.1
    (Putting-front _ _ _ (packet_rest c.args.form c.args.behind.now c.args.bytes.now) c.as_slice.result.now
    (packet_rest c.args.form c.args.behind.now others) wrote.0
    (subst (Putting _ _ (packet_rest c.args.form c.args.behind.now c.args.bytes.now))
    (ap (packet_rest c.args.form c.args.behind.now) parts ∙ (rest-piece c.args.form c.args.behind.now piece others
    ∙ ap (λ l. l ++ packet_rest c.args.form c.args.behind.now others) (sym line_is))) i)
    t wrote.1)

pub loop-rest-preserved : goal.loop-rest-preserved
loop-rest-preserved g c =
    let piece = c.split_at.result.0.now in
    let others = c.split_at.result.1.now in
    let e = c.in_ok-put_all.ensures in
    let parts : c.loop-rest.rest.now ≡ piece ++ others = search rules in
    let line_is : c.as_slice.result.now ≡ encode_lower piece =
    c.as_slice.ensures.value ∙ (c.prepend_hex.ensures.text ∙ (ap (λ l. encode_lower piece ++ l) c.clear.ensures.text
    ∙ append-nil (encode_lower piece))) in (
      Putting-line _ _ _ _ (packet_rest c.args.form c.args.behind.now c.loop-rest.rest.now) c.as_slice.result.now
          (packet_rest c.args.form c.args.behind.now others)
          c.loop-rest.invariant.0
          (ap (packet_rest c.args.form c.args.behind.now) parts ∙ (rest-piece c.args.form c.args.behind.now piece others
          ∙ ap (λ l. l ++ packet_rest c.args.form c.args.behind.now others) (sym line_is)))
          e.bytes e.writer.told e.writer.cannot,
      search rules,
    )

pub returns-clause-bytes : goal.returns-clause-bytes
returns-clause-bytes g c = λ t.
    let i = c.loop-rest.invariant.0 in
    let rest = c.loop-rest.rest.now in
    let line_is : c.as_slice-2.result.now ≡ packet_rest c.args.form c.args.behind.now rest =
    c.as_slice-2.ensures.value ∙ (c.prepend_hex-2.ensures.text ∙ ap (λ l. encode_lower rest ++ l)
    c.write_packet_end.ensures.text) in
    Puts-last _ _ _ (packet_rest c.args.form c.args.behind.now c.args.bytes.now) c.as_slice-2.result.now
    c.put_all-2.result
    (subst (Putting _ _ (packet_rest c.args.form c.args.behind.now c.args.bytes.now)) (sym line_is) i) t
    (c.put_all-2.ensures.bytes (i.told t))
