use Rattle.std.proofs.Common.{◌+◌, ap, refl}
use Rattle.cap_pcap.proofs.Looking.{SeesRecord-passed}
use Rattle.cap_pcap.proofs.records.try_next_buffered.Goals as goal

pub returns-else-bytes-size-clause-sees : goal.returns-else-bytes-size-clause-sees
returns-else-bytes-size-clause-sees g c = λ tail.
    rw c.record_of-record.ensures
    (SeesRecord-passed c.args.header tail c.args.window.now c.pass.new.self c.args.given c.in-Ok.size
    (c.offset.result + c.args.given) c.split_at.result.1.now
    c.pass.ensures.passes (rw c.bytes.ensures at c.split_at.ensures.back)
    (ap (λ n. n + c.args.given) c.offset.ensures.value) (c.if-not-has_buffered.ensures.0 refl).0
    (c.if-not-has_buffered.ensures.0 refl).1 c.in-Ok.ensures c.if-bytes-size.false)
