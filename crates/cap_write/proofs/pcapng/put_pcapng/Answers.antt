use Rattle.std.proofs.Common.{arith, inl}
use Rattle.std.proofs.lemmas.Result.{err_from_is_err_and}
use Rattle.cap_bytes.proofs.Putting.{Prints-head, Prints-behind}
use Rattle.cap_write.specs.Numbering.{refusal_in}
use Rattle.cap_write.specs.Texts.{first_origins, front_bytes, text_behind}
use Rattle.cap_write.proofs.Starting.{memory-wider}
use Rattle.cap_write.proofs.Writing.{WriterKeeps-behind}
use Rattle.cap_write.proofs.pcapng.put_pcapng.Goals as goal

pub returns-in_err-put_front-clause-text : goal.returns-in_err-put_front-clause-text
returns-in_err-put_front-clause-text g c = λ t w.
    let p = err_from_is_err_and c.from_residual-in_err-put_front.result c.from_residual-in_err-put_front.ensures.1 in
    let items = (g.F.PacketFeed.feed c.args.feed.now).items in
    let origins = first_origins c.args.start.file c.args.start.first in
    rw (p.1, p.2)
    (Prints-head (refusal_in origins items) (g.W.Sink.held c.args.writer.now) (g.W.Sink.held c.put_front.new.writer)
    (front_bytes c.args.order c.args.start.first)
    (text_behind c.args.order origins items) c.in_err-put_front.field-0.0 c.in_err-put_front.ensures.fault
    (c.in_err-put_front.ensures.bytes w))

pub returns-clause-text : goal.returns-clause-text
returns-clause-text g c = grind (arith, Prints-behind)

pub returns-clause-writer : goal.returns-clause-writer
returns-clause-writer g c = WriterKeeps-behind _ _ _ _ c.in_ok-put_front.ensures.writer c.put_packets.ensures.writer

pub returns-clause-memory : goal.returns-clause-memory
returns-clause-memory g c = memory-wider c.put_packets.result _ _ (λ at. inl at) c.put_packets.ensures.memory
