use Rattle.std.proofs.Common.{◌≡◌, ◌++◌, ◌∙◌, ap, arith, subst}
use Rattle.std.proofs.lemmas.Result.{err_from_is_err_and}
use Rattle.cap_bytes.proofs.Putting.{Puts-first, Puts-second}
use Rattle.cap_bytes.specs.Device.{Puts}
use Rattle.cap_commands.proofs.Pieces.{Puts-err, packet-parts}
use Rattle.cap_commands.specs.inner.PacketParts.{packet_head, packet_rest}
use Rattle.cap_commands.proofs.list.put_long_packet.Goals as goal

pub returns-in_err-put_all-clause-bytes : goal.returns-in_err-put_all-clause-bytes
returns-in_err-put_all-clause-bytes g c = λ t.
    let p = err_from_is_err_and c.from_residual.result c.from_residual.ensures.1 in
    let a = c.args in
    let rest = packet_rest a.form a.behind.now a.shown.now in
    let line_is : c.as_slice.result.now ≡ packet_head a.form a.n a.meta.now =
    c.as_slice.ensures.value ∙ c.write_packet_head.ensures in
    subst (Puts _ c.from_residual.result _)
    (ap (λ l. l ++ rest) line_is
    ∙ packet-parts a.form a.behind.now a.n a.meta.now a.shown.now (omega (arith, c.requires)))
    (Puts-err _ _ (c.as_slice.result.now ++ rest) c.from_residual.result p.0 p.1
    (Puts-first (Unit {0}) _ _ c.as_slice.result.now rest p.0 (c.in_err-put_all.ensures.bytes t)))

pub returns-clause-bytes : goal.returns-clause-bytes
returns-clause-bytes g c = λ t.
    let a = c.args in
    let rest = packet_rest a.form a.behind.now a.shown.now in
    let line_is : c.as_slice.result.now ≡ packet_head a.form a.n a.meta.now =
    c.as_slice.ensures.value ∙ c.write_packet_head.ensures in
    subst (Puts _ c.put_rest.result _)
    (ap (λ l. l ++ rest) line_is
    ∙ packet-parts a.form a.behind.now a.n a.meta.now a.shown.now (omega (arith, c.requires)))
    (Puts-second (Unit {0}) _ _ _ c.as_slice.result.now rest c.put_rest.result (c.in_ok-put_all.ensures.bytes t)
    (c.put_rest.ensures.bytes (c.in_ok-put_all.ensures.writer.told t)))
