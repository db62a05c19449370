use Rattle.std.proofs.Common.{ap}
use Rattle.std.proofs.lemmas.Result.{err_from_is_err_and}
use Rattle.cap_source.specs.inner.FileState.{head_of}
use Rattle.cap_source.proofs.Firsts.{head_told, items_told, fault_told, fault_items, keeps_told}
use Rattle.cap_source.proofs.captures.CapturePacketFeed.head.Goals as goal

pub returns-in_err-learn-clause-answer : goal.returns-in_err-learn-clause-answer
returns-in_err-learn-clause-answer g c =
    let p = err_from_is_err_and c.from_residual.result c.from_residual.ensures.1 in
    rw (p.1, p.2) (fault_told _ _ _ _ c.in_err-learn.field-0.0 c.in_err-learn.ensures.keeps
    c.in_err-learn.ensures.answer)

pub returns-in_err-learn-clause-keeps : goal.returns-in_err-learn-clause-keeps
returns-in_err-learn-clause-keeps g c =
    keeps_told _ _ _ _ _ c.learn.ensures.keeps c.learn.ensures.answer

pub returns-in_err-learn-clause-items : goal.returns-in_err-learn-clause-items
returns-in_err-learn-clause-items g c =
    let p = err_from_is_err_and c.from_residual.result c.from_residual.ensures.1 in
    rw (p.1, p.2) (fault_items _ _ _ _ c.in_err-learn.field-0.0 c.in_err-learn.ensures.answer)

pub returns-in-Some-Packet-clause-answer : goal.returns-in-Some-Packet-clause-answer
returns-in-Some-Packet-clause-answer g c =
    head_told _ _ _ _ c.in-Some-Packet.field-0 _ c.args.self.now.sound.whole
    c.in_ok-learn.ensures.answer c.in-Some-Packet.ensures (ap head_of c.in-Some-Packet.field-0-is)

pub returns-in-Some-Packet-clause-keeps : goal.returns-in-Some-Packet-clause-keeps
returns-in-Some-Packet-clause-keeps g c =
    keeps_told _ _ _ _ _ c.learn.ensures.keeps c.learn.ensures.answer

pub returns-in-Some-Packet-clause-items : goal.returns-in-Some-Packet-clause-items
returns-in-Some-Packet-clause-items g c =
    items_told _ _ _ _ c.in_ok-learn.ensures.answer

pub returns-in-Some-Refused-clause-answer : goal.returns-in-Some-Refused-clause-answer
returns-in-Some-Refused-clause-answer g c =
    head_told _ _ _ _ c.in-Some-Refused.field-0 _ c.args.self.now.sound.whole
    c.in_ok-learn.ensures.answer c.in-Some-Refused.ensures (ap head_of c.in-Some-Refused.field-0-is)

pub returns-in-Some-Refused-clause-keeps : goal.returns-in-Some-Refused-clause-keeps
returns-in-Some-Refused-clause-keeps g c =
    keeps_told _ _ _ _ _ c.learn.ensures.keeps c.learn.ensures.answer

pub returns-in-Some-Refused-clause-items : goal.returns-in-Some-Refused-clause-items
returns-in-Some-Refused-clause-items g c =
    items_told _ _ _ _ c.in_ok-learn.ensures.answer

pub returns-in-Some-End-clause-answer : goal.returns-in-Some-End-clause-answer
returns-in-Some-End-clause-answer g c =
    head_told _ _ _ _ c.in-Some-End.field-0 _ c.args.self.now.sound.whole
    c.in_ok-learn.ensures.answer c.in-Some-End.ensures (ap head_of c.in-Some-End.field-0-is)

pub returns-in-Some-End-clause-keeps : goal.returns-in-Some-End-clause-keeps
returns-in-Some-End-clause-keeps g c =
    keeps_told _ _ _ _ _ c.learn.ensures.keeps c.learn.ensures.answer

pub returns-in-Some-End-clause-items : goal.returns-in-Some-End-clause-items
returns-in-Some-End-clause-items g c =
    items_told _ _ _ _ c.in_ok-learn.ensures.answer
