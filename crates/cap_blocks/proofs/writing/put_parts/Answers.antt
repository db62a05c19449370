use Rattle.std.proofs.Common.{◌++◌, length, Err}
use Rattle.std.proofs.lemmas.Result.{err_from_is_err_and}
use Rattle.cap_blocks.specs.Grammar.{packet_tail}
use Rattle.cap_bytes.proofs.Putting.{Puts-first, Puts-second}
use Rattle.cap_blocks.proofs.Parts.{packet_bytes-parts}
use Rattle.cap_blocks.proofs.writing.put_parts.Goals as goal

pub returns-in_err-put_all-clause-bytes : goal.returns-in_err-put_all-clause-bytes
returns-in_err-put_all-clause-bytes g c =
    let p = err_from_is_err_and c.from_residual.result c.from_residual.ensures.1 in
    let a = c.args in
    rw (p.1, ← packet_bytes-parts a.order a.packet.interface a.packet.units a.packet.original a.data.now)
    (λ t. Puts-first (Unit {0}) _ _ _ (a.data.now ++ packet_tail a.order (length a.data.now)) c.in_err-put_all.field-0.0
    (rw (c.bytes.ensures, c.packet_head.ensures.bytes) at (c.in_err-put_all.ensures.bytes t)))

pub returns-in_err-put_all-2-clause-bytes : goal.returns-in_err-put_all-2-clause-bytes
returns-in_err-put_all-2-clause-bytes g c =
    let p = err_from_is_err_and c.from_residual-in_err-put_all-2.result c.from_residual-in_err-put_all-2.ensures.1 in
    let a = c.args in
    rw (p.1, ← packet_bytes-parts a.order a.packet.interface a.packet.units a.packet.original a.data.now)
    (λ t. Puts-second (Unit {0}) _ (g.W.Sink.held c.put_all.new.writer) _ _ _ (Err c.in_err-put_all-2.field-0.0)
    (rw (c.bytes.ensures, c.packet_head.ensures.bytes) at (c.in_ok-put_all.ensures.bytes t))
    (Puts-first (Unit {0}) _ _ _ (packet_tail a.order (length a.data.now)) c.in_err-put_all-2.field-0.0
    (c.in_err-put_all-2.ensures.bytes (c.in_ok-put_all.ensures.writer.told t))))

pub returns-clause-bytes : goal.returns-clause-bytes
returns-clause-bytes g c =
    let a = c.args in
    rw (← packet_bytes-parts a.order a.packet.interface a.packet.units a.packet.original a.data.now)
    (λ t. Puts-second (Unit {0}) _ (g.W.Sink.held c.put_all.new.writer) _ _ _ c.put_all-3.result
    (rw (c.bytes.ensures, c.packet_head.ensures.bytes) at (c.in_ok-put_all.ensures.bytes t))
    (Puts-second (Unit {0}) _ (g.W.Sink.held c.put_all-2.new.writer) _ _ _ c.put_all-3.result
    (c.in_ok-put_all-2.ensures.bytes (c.in_ok-put_all.ensures.writer.told t))
    (rw (c.bytes-2.ensures, c.packet_tail.ensures) at
    (c.put_all-3.ensures.bytes (c.in_ok-put_all-2.ensures.writer.told (c.in_ok-put_all.ensures.writer.told t))))))
