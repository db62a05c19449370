use Rattle.std.proofs.Common.{◌∙◌, sym}
use Rattle.cap_source.proofs.Showing.{shows-known, shows-learned}
use Rattle.cap_source.proofs.captures.Capture.try_peek.Goals as goal

pub returns-then-is_some-clause-answer : goal.returns-then-is_some-clause-answer
returns-then-is_some-clause-answer g c = shows-known _ c.args.self.now.next.next c.is_packet.result (sym
    c.is_some.ensures
    ∙ c.if-is_some.true) c.is_packet.ensures

pub returns-then-try_next_buffered-clause-answer : goal.returns-then-try_next_buffered-clause-answer
returns-then-try_next_buffered-clause-answer g c =
    shows-learned _ _ c.args.self.now.next.next c.try_next_buffered.new.self.next.next
    c.is_packet-then-try_next_buffered.result
    (sym c.is_some.ensures
    ∙ c.if-is_some.false)
    (rw c.if-try_next_buffered.true at c.try_next_buffered.ensures.answer) c.is_packet-then-try_next_buffered.ensures
