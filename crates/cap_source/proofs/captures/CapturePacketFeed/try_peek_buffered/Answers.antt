use Rattle.cap_source.proofs.Showing.{shows-packet}
use Rattle.cap_source.proofs.captures.CapturePacketFeed.try_peek_buffered.Goals as goal

pub returns-clause-answer : goal.returns-clause-answer
returns-clause-answer g c =
    shows-packet _ _ c.args.self.now.next.next c.try_peek.new.self.next.next c.try_peek.result
    c.args.self.now.sound.whole
    c.try_peek.ensures.answer
