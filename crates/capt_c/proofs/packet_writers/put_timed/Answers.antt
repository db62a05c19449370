use Rattle.std.proofs.Common.{refl, sym, ap, ◌∙◌}
use Rattle.cap_write.specs.Numbering.{refusal_by}
use Rattle.capt_c.proofs.Described.{OnOk-always, Prints-put, fault-used, one-used, unused, used, with-used}
use Rattle.capt_c.proofs.packet_writers.put_timed.Goals as goal

pub put_described-requires-clause-new : goal.put_described-requires-clause-new
put_described-requires-clause-new c =
    unused c.args.interfaces.now.list.items c.args.meta.now
    (sym c.number_of-number.ensures.number ∙ c.if-number-count.true ∙ c.count.ensures.count)

pub returns-clause-text : goal.returns-clause-text
returns-clause-text c =
    let list = c.args.interfaces.now.list.items in
    let known = used list c.args.meta.now (λ is. c.if-number-count.false
    (c.number_of-number.ensures.number ∙ is ∙ sym c.count.ensures.count)) in
    let none = fault-used list c.args.meta.now c.args.units c.requires.units known in
    rw (one-used c.args.order list c.args.meta.now c.args.frame.now c.args.units c.requires.units none known)
    (Prints-put _ _ _ _ c.put_packet.result (ap (refusal_by c.args.meta.now) none) c.put_packet.ensures.fault
    (rw c.number_of-number.ensures.number at (c.put_packet.ensures.bytes refl)))

pub returns-clause-origins : goal.returns-clause-origins
returns-clause-origins c =
    let list = c.args.interfaces.now.list.items in
    let known = used list c.args.meta.now (λ is. c.if-number-count.false
    (c.number_of-number.ensures.number ∙ is ∙ sym c.count.ensures.count)) in
    OnOk-always c.put_packet.result _
    (with-used list c.args.meta.now known, fault-used list c.args.meta.now c.args.units c.requires.units known)
