use Rattle.std.proofs.Common.{arith}
use Rattle.std.proofs.lemmas.Result.{err_from_is_err_and}
use Rattle.cap_bytes.proofs.Reach.{Reaches-need, ReachesTo-need}
use Rattle.cap_blocks.proofs.Looking.{SeesHeader-parsed, SeesStop-header, SeesStop-none}
use Rattle.cap_blocks.proofs.headers.look_at_header.Goals as goal

pub returns-then-is_end-clause-answer : goal.returns-then-is_end-clause-answer
returns-then-is_end-clause-answer g c = grind (arith, SeesStop-none)

pub returns-in-Ok-clause-answer : goal.returns-in-Ok-clause-answer
returns-in-Ok-clause-answer g c =
    let e = rw (c.in-Ok.is, c.bytes-2.ensures, c.offset-offset.ensures.value) at c.find_block_header.ensures in
    SeesHeader-parsed c.in_ok-need.field-0 c.args.section c.args.window.now c.need.new.self c.in-Ok.block
    c.in_ok-need.ensures.answer
    c.in_ok-need.ensures.keeps e.0 e.1

pub returns-in-Err-clause-answer : goal.returns-in-Err-clause-answer
returns-in-Err-clause-answer g c = grind (arith, SeesStop-header)

pub returns-in_err-need-clause-reaches : goal.returns-in_err-need-clause-reaches
returns-in_err-need-clause-reaches g c = grind (arith, err_from_is_err_and, Reaches-need)

pub returns-then-is_end-clause-reaches : goal.returns-then-is_end-clause-reaches
returns-then-is_end-clause-reaches g c =
    ReachesTo-need 12 c.in_ok-need.field-0 c.args.window.now c.need.new.self c.in_ok-need.ensures.answer
    c.in_ok-need.ensures.same c.in_ok-need.ensures.asked

pub returns-in-Ok-clause-reaches : goal.returns-in-Ok-clause-reaches
returns-in-Ok-clause-reaches g c =
    ReachesTo-need 12 c.in_ok-need.field-0 c.args.window.now c.need.new.self c.in_ok-need.ensures.answer
    c.in_ok-need.ensures.same c.in_ok-need.ensures.asked

pub returns-in-Err-clause-reaches : goal.returns-in-Err-clause-reaches
returns-in-Err-clause-reaches g c =
    ReachesTo-need 12 c.in_ok-need.field-0 c.args.window.now c.need.new.self c.in_ok-need.ensures.answer
    c.in_ok-need.ensures.same c.in_ok-need.ensures.asked
