use Rattle.std.proofs.lemmas.Result.{err_from_is_err_and}
use Rattle.cap_merge.specs.inner.View.{parts_of}
use Rattle.cap_merge.proofs.Peeking.{stopped-looks}
use Rattle.cap_merge.proofs.merging.Merged.find.Goals as goal

pub returns-in_err-is_packet : goal.returns-in_err-is_packet
returns-in_err-is_packet g c =
    let m = c.args.self.now in
    let n = c.look.new.self in
    let ps = parts_of m in
    let qs = parts_of n in
    let p = err_from_is_err_and c.from_residual.result c.from_residual.ensures.1 in
    let h = stopped-looks ps qs c.in_err-is_packet.field-0.0 c.in_err-is_packet.ensures.asks in
    rw (p.1, p.2) (record {
      asks = h.0;
      next = h.1;
      backward = c.look.ensures.backward;
      counts = c.look.ensures.counts;
    })
