use Rattle.std.proofs.Common.{arith}
use Rattle.std.proofs.lemmas.Result.{err_from_is_err_and}
use Rattle.cap_bytes.proofs.Parsing.{FailsBy-need}
use Rattle.cap_bytes.proofs.Reach.{Reaches-need, ReachesTo-need}
use Rattle.cap_blocks.proofs.Faults.{total-known}
use Rattle.cap_blocks.proofs.Behind.{IsHeader-same, SeesBody-known, SeesBody-cut}
use Rattle.cap_blocks.proofs.bodies.look_at_known.Goals as goal

pub need-requires : goal.need-requires
need-requires g c = total-known c.args.block.kind c.args.block.total c.requires.header.allowed c.requires.known

pub returns-in_err-need-clause-answer : goal.returns-in_err-need-clause-answer
returns-in_err-need-clause-answer g c = grind (arith, err_from_is_err_and, FailsBy-need, total-known)

pub returns-then-not-branch-clause-answer : goal.returns-then-not-branch-clause-answer
returns-then-not-branch-clause-answer g c =
    let n = rw c.if-not-branch.true at c.in_ok-need.ensures.answer in
    SeesBody-cut c.args.block c.args.window.now c.need.new.self c.requires.header n

pub body_rule-requires-clause-header : goal.body_rule-requires-clause-header
body_rule-requires-clause-header g c =
    let n = rw c.if-not-branch.false at c.in_ok-need.ensures.answer in
    rw c.bytes.ensures
    (IsHeader-same c.args.block c.args.window.now.offset c.args.block.offset c.args.window.now.shown
    c.need.new.self.shown c.requires.header
    n.0.front c.requires.header.offset_is)

pub returns-clause-answer : goal.returns-clause-answer
returns-clause-answer g c =
    let n = rw c.if-not-branch.false at c.in_ok-need.ensures.answer in
    SeesBody-known c.args.block c.args.window.now c.need.new.self c.body_rule.result c.requires.header
    c.requires.known n
    (rw c.bytes.ensures at c.body_rule.ensures)

pub returns-in_err-need-clause-reaches : goal.returns-in_err-need-clause-reaches
returns-in_err-need-clause-reaches g c = grind (arith, err_from_is_err_and, Reaches-need)

pub returns-then-not-branch-clause-reaches : goal.returns-then-not-branch-clause-reaches
returns-then-not-branch-clause-reaches g c =
    ReachesTo-need c.args.block.total c.in_ok-need.field-0 c.args.window.now c.need.new.self c.in_ok-need.ensures.answer
    c.in_ok-need.ensures.same c.in_ok-need.ensures.asked

pub returns-clause-reaches : goal.returns-clause-reaches
returns-clause-reaches g c =
    ReachesTo-need c.args.block.total c.in_ok-need.field-0 c.args.window.now c.need.new.self c.in_ok-need.ensures.answer
    c.in_ok-need.ensures.same c.in_ok-need.ensures.asked
