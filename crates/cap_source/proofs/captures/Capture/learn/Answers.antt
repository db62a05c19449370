use Rattle.std.proofs.Common.{◌∙◌, sym}
use Rattle.cap_source.proofs.Going.{taken_map, IfTaken-so, ReadsTo-here, LearnsNext-known, LearnsNext-asked}
use Rattle.cap_source.proofs.Going.{LearnsNext-shown}
use Rattle.cap_source.specs.inner.Captures.{capture_file}
use Rattle.cap_source.specs.inner.FileState.{ReadsTo, FileTakes}
use Rattle.cap_source.proofs.captures.Capture.learn.Goals as goal

pub returns-then-is_some-clause-answer : goal.returns-then-is_some-clause-answer
returns-then-is_some-clause-answer g c = LearnsNext-known _ _ (sym c.is_some.ensures ∙ c.if-is_some.true)

pub returns-then-is_some-clause-reaches : goal.returns-then-is_some-clause-reaches
returns-then-is_some-clause-reaches g c =
    IfTaken-so c.args.self.now.next.next _ (ReadsTo-here (capture_file c.args.self.now))

pub returns-then-try_next_buffered-clause-answer : goal.returns-then-try_next_buffered-clause-answer
returns-then-try_next_buffered-clause-answer g c =
    LearnsNext-shown (capture_file c.args.self.now) (capture_file c.try_next_buffered.new.self)
    c.args.self.now.next.next
    c.try_next_buffered.new.self.next.next (sym c.is_some.ensures ∙ c.if-is_some.false)
    (rw c.if-try_next_buffered.true at c.try_next_buffered.ensures.answer)

pub returns-then-try_next_buffered-clause-reaches : goal.returns-then-try_next_buffered-clause-reaches
returns-then-try_next_buffered-clause-reaches g c =
    IfTaken-so c.try_next_buffered.new.self.next.next _ (c.try_next_buffered.ensures.reaches
    c.if-try_next_buffered.true).1

pub returns-clause-answer : goal.returns-clause-answer
returns-clause-answer g c =
    let same = c.try_next_buffered.ensures.none c.if-try_next_buffered.false in
    LearnsNext-asked (capture_file c.args.self.now) _ c.args.self.now.next.next c.find.new.self.next.next c.find.result
    (sym c.is_some.ensures ∙ c.if-is_some.false) (rw same.0 at c.find.ensures.answer)

pub returns-clause-reaches : goal.returns-clause-reaches
returns-clause-reaches g c =
    let same = c.try_next_buffered.ensures.none c.if-try_next_buffered.false in
    let old = capture_file c.args.self.now in
    let new = capture_file c.find.new.self in
    taken_map c.find.result c.find.new.self.next.next (FileTakes old new) (ReadsTo old new) (λ t. t.1)
    (rw same.0 at c.find.ensures.reaches)
