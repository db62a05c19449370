use Rattle.std.proofs.Common.{arith}
use Rattle.std.proofs.lemmas.Result.{err_from_is_err_and}
use Rattle.cap_bytes.proofs.Reach.{Reaches-need, ReachesTo-need}
use Rattle.cap_source.proofs.Looks.{looks_at}
use Rattle.cap_source.proofs.opening.look.Goals as goal

pub returns-then-is_section-clause-answer : goal.returns-then-is_section-clause-answer
returns-then-is_section-clause-answer g c = grind (arith, looks_at)

pub returns-else-is_section-clause-answer : goal.returns-else-is_section-clause-answer
returns-else-is_section-clause-answer g c = grind (arith, looks_at)

pub returns-in_err-need-clause-reaches : goal.returns-in_err-need-clause-reaches
returns-in_err-need-clause-reaches g c = grind (arith, err_from_is_err_and, Reaches-need)

pub returns-then-not-branch-clause-reaches : goal.returns-then-not-branch-clause-reaches
returns-then-not-branch-clause-reaches g c =
    ReachesTo-need 4 c.in_ok-need.field-0 c.args.window.now c.need.new.self c.in_ok-need.ensures.answer
    c.in_ok-need.ensures.same c.in_ok-need.ensures.asked

pub returns-then-is_section-clause-reaches : goal.returns-then-is_section-clause-reaches
returns-then-is_section-clause-reaches g c =
    ReachesTo-need 4 c.in_ok-need.field-0 c.args.window.now c.need.new.self c.in_ok-need.ensures.answer
    c.in_ok-need.ensures.same c.in_ok-need.ensures.asked

pub returns-else-is_section-clause-reaches : goal.returns-else-is_section-clause-reaches
returns-else-is_section-clause-reaches g c =
    ReachesTo-need 4 c.in_ok-need.field-0 c.args.window.now c.need.new.self c.in_ok-need.ensures.answer
    c.in_ok-need.ensures.same c.in_ok-need.ensures.asked
