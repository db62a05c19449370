use Rattle.std.proofs.Common.{ap}
use Rattle.std.proofs.lemmas.Result.{err_from_is_err_and}
use Rattle.cap_source.specs.inner.FileState.{head_of}
use Rattle.cap_source.proofs.Fronts.{Fronts-fault, Fronts-given, none-next}
use Rattle.cap_source.specs.inner.Captures.{capture_fronts}
use Rattle.cap_source.proofs.Firsts.{head_told, items_told, fault_found, fault_item, keeps_told}
use Rattle.cap_source.proofs.captures.CapturePacketFeed.peek.Goals as goal

pub returns-in_err-learn-clause-answer : goal.returns-in_err-learn-clause-answer
returns-in_err-learn-clause-answer g c =
    let p = err_from_is_err_and c.from_residual.result c.from_residual.ensures.1 in
    rw (p.1, p.2) (fault_found _ _ _ _ c.in_err-learn.field-0.0 c.in_err-learn.ensures.keeps
    c.in_err-learn.ensures.answer)

pub returns-in_err-learn-clause-keeps : goal.returns-in_err-learn-clause-keeps
returns-in_err-learn-clause-keeps g c =
    keeps_told _ _ _ _ _ c.learn.ensures.keeps c.learn.ensures.answer

pub returns-in_err-learn-clause-items : goal.returns-in_err-learn-clause-items
returns-in_err-learn-clause-items g c =
    let p = err_from_is_err_and c.from_residual.result c.from_residual.ensures.1 in
    rw (p.1, p.2) (fault_item _ _ _ _ c.in_err-learn.field-0.0 c.in_err-learn.ensures.answer)

pub returns-in-Some-Packet-clause-answer : goal.returns-in-Some-Packet-clause-answer
returns-in-Some-Packet-clause-answer g c = (
  c.in-Some-Packet.field-0-0,
  head_told _ _ _ _ c.in-Some-Packet.field-0 _ c.args.self.now.sound.whole
      c.in_ok-learn.ensures.answer c.in-Some-Packet.ensures (ap head_of c.in-Some-Packet.field-0-is),
)

pub returns-in-Some-Packet-clause-keeps : goal.returns-in-Some-Packet-clause-keeps
returns-in-Some-Packet-clause-keeps g c =
    keeps_told _ _ _ _ _ c.learn.ensures.keeps c.learn.ensures.answer

pub returns-in-Some-Packet-clause-items : goal.returns-in-Some-Packet-clause-items
returns-in-Some-Packet-clause-items g c =
    items_told _ _ _ _ c.in_ok-learn.ensures.answer

pub returns-in-Some-Refused-clause-answer : goal.returns-in-Some-Refused-clause-answer
returns-in-Some-Refused-clause-answer g c =
    head_told _ _ _ _ c.in-Some-Refused.field-0 _ c.args.self.now.sound.whole
    c.in_ok-learn.ensures.answer c.in-Some-Refused.ensures (ap head_of c.in-Some-Refused.field-0-is)

pub returns-in-Some-Refused-clause-keeps : goal.returns-in-Some-Refused-clause-keeps
returns-in-Some-Refused-clause-keeps g c =
    keeps_told _ _ _ _ _ c.learn.ensures.keeps c.learn.ensures.answer

pub returns-in-Some-Refused-clause-items : goal.returns-in-Some-Refused-clause-items
returns-in-Some-Refused-clause-items g c =
    items_told _ _ _ _ c.in_ok-learn.ensures.answer

pub returns-in-Some-End-clause-answer : goal.returns-in-Some-End-clause-answer
returns-in-Some-End-clause-answer g c =
    head_told _ _ _ _ c.in-Some-End.field-0 _ c.args.self.now.sound.whole
    c.in_ok-learn.ensures.answer c.in-Some-End.ensures (ap head_of c.in-Some-End.field-0-is)

pub returns-in-Some-End-clause-keeps : goal.returns-in-Some-End-clause-keeps
returns-in-Some-End-clause-keeps g c =
    keeps_told _ _ _ _ _ c.learn.ensures.keeps c.learn.ensures.answer

pub returns-in-Some-End-clause-items : goal.returns-in-Some-End-clause-items
returns-in-Some-End-clause-items g c =
    items_told _ _ _ _ c.in_ok-learn.ensures.answer

pub returns-in_err-learn-clause-fronts : goal.returns-in_err-learn-clause-fronts
returns-in_err-learn-clause-fronts g c = λ told unknown.
    let p = err_from_is_err_and c.from_residual.result c.from_residual.ensures.1 in
    rw (p.1, p.2)
    (Fronts-fault (capture_fronts c.args.self.now) (capture_fronts c.learn.new.self) c.learn.new.self.next.next _
    c.in_err-learn.field-0.0 (c.in_err-learn.ensures.fronts (none-next c.args.self.now.next.next unknown) told))

pub returns-in-Some-Packet-clause-fronts : goal.returns-in-Some-Packet-clause-fronts
returns-in-Some-Packet-clause-fronts g c = λ told unknown.
    Fronts-given (capture_fronts c.args.self.now) (capture_fronts c.learn.new.self) c.learn.new.self.next.next
    c.in-Some-Packet.field-0 _ _ c.in-Some-Packet.ensures c.in-Some-Packet.field-0-is
    (c.in_ok-learn.ensures.fronts (none-next c.args.self.now.next.next unknown) told)
