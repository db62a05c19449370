use Rattle.std.proofs.Common.{true, arith, ◌∙◌, sym, ◌-◌}
use Rattle.cap_bytes.proofs.Reach.{ReachesTo-need, ReachesTo-skip, ReachesTo-passed}
use Rattle.cap_blocks.proofs.Behind.{SeesBody-ended, SeesBody-short, SeesBody-other, SeesBody-skipped, Reaches-ended}
use Rattle.cap_blocks.proofs.Behind.{Reaches-trailer}
use Rattle.cap_blocks.proofs.bodies.skip_body.Goals as goal

pub returns-in_err-skip-clause-answer : goal.returns-in_err-skip-clause-answer
returns-in_err-skip-clause-answer g c = grind arith

pub returns-then-not-branch-clause-answer : goal.returns-then-not-branch-clause-answer
returns-then-not-branch-clause-answer g c =
    SeesBody-ended c.args.block c.args.window.now c.skip.new.self c.requires.header
    (rw (c.if-not-branch.true, c.from.ensures) at c.in_ok-skip.ensures.answer)

pub returns-then-not-branch-2-clause-answer : goal.returns-then-not-branch-2-clause-answer
returns-then-not-branch-2-clause-answer g c =
    SeesBody-short c.args.block c.args.window.now c.skip.new.self c.need.new.self c.requires.header
    (rw (c.if-not-branch.false, c.from.ensures) at c.in_ok-skip.ensures.answer) c.in_ok-skip.ensures.keeps.told
    (rw c.if-not-branch-2.true at c.in_ok-need.ensures.answer)

pub returns-then-u32_at-block-clause-answer : goal.returns-then-u32_at-block-clause-answer
returns-then-u32_at-block-clause-answer g c =
    SeesBody-other c.args.block c.args.window.now c.skip.new.self c.need.new.self c.requires.header
    (rw (c.if-not-branch.false, c.from.ensures) at c.in_ok-skip.ensures.answer) c.in_ok-skip.ensures.keeps.told
    (rw c.if-not-branch-2.false at c.in_ok-need.ensures.answer)
    (λ is. c.if-u32_at-block.true ((rw c.bytes.ensures at c.u32_at.ensures) ∙ is))

pub returns-clause-answer : goal.returns-clause-answer
returns-clause-answer g c =
    SeesBody-skipped c.args.block c.args.window.now c.skip.new.self c.need.new.self c.pass.new.self c.requires.header
    c.requires.unknown
    (rw (c.if-not-branch.false, c.from.ensures) at c.in_ok-skip.ensures.answer) c.in_ok-skip.ensures.keeps.told
    (rw c.if-not-branch-2.false at c.in_ok-need.ensures.answer)
    (sym (rw c.bytes.ensures at c.u32_at.ensures) ∙ c.if-u32_at-block.false)
    c.pass.ensures.passes

pub returns-then-not-branch-clause-reaches : goal.returns-then-not-branch-clause-reaches
returns-then-not-branch-clause-reaches g c =
    Reaches-ended c.args.block c.args.window.now c.skip.new.self c.requires.header.least
    (rw (c.if-not-branch.true, c.from.ensures) at c.in_ok-skip.ensures.answer)

pub returns-then-not-branch-2-clause-reaches : goal.returns-then-not-branch-2-clause-reaches
returns-then-not-branch-2-clause-reaches g c =
    let d = rw (c.if-not-branch.false, c.from.ensures) at c.in_ok-skip.ensures.answer in
    let asked = rw (c.if-not-branch.false, c.from.ensures) at c.in_ok-skip.ensures.asked in
    Reaches-trailer c.args.block c.args.window.now c.skip.new.self c.need.new.self c.requires.header.least d
    c.in_ok-skip.ensures.keeps.most
    (ReachesTo-skip (c.args.block.total - 4) c.args.window.now c.skip.new.self true d asked)
    (ReachesTo-need 4 c.in_ok-need.field-0 c.skip.new.self c.need.new.self c.in_ok-need.ensures.answer
    c.in_ok-need.ensures.same c.in_ok-need.ensures.asked)

pub returns-then-u32_at-block-clause-reaches : goal.returns-then-u32_at-block-clause-reaches
returns-then-u32_at-block-clause-reaches g c =
    let d = rw (c.if-not-branch.false, c.from.ensures) at c.in_ok-skip.ensures.answer in
    let asked = rw (c.if-not-branch.false, c.from.ensures) at c.in_ok-skip.ensures.asked in
    Reaches-trailer c.args.block c.args.window.now c.skip.new.self c.need.new.self c.requires.header.least d
    c.in_ok-skip.ensures.keeps.most
    (ReachesTo-skip (c.args.block.total - 4) c.args.window.now c.skip.new.self true d asked)
    (ReachesTo-need 4 c.in_ok-need.field-0 c.skip.new.self c.need.new.self c.in_ok-need.ensures.answer
    c.in_ok-need.ensures.same c.in_ok-need.ensures.asked)

pub returns-clause-reaches : goal.returns-clause-reaches
returns-clause-reaches g c =
    let d = rw (c.if-not-branch.false, c.from.ensures) at c.in_ok-skip.ensures.answer in
    let asked = rw (c.if-not-branch.false, c.from.ensures) at c.in_ok-skip.ensures.asked in
    let n = rw c.if-not-branch-2.false at c.in_ok-need.ensures.answer in
    ReachesTo-passed _ _ 4 c.args.window.now c.need.new.self c.pass.new.self n.1 c.pass.ensures.passes
    (Reaches-trailer c.args.block c.args.window.now c.skip.new.self c.need.new.self c.requires.header.least d
    c.in_ok-skip.ensures.keeps.most
    (ReachesTo-skip (c.args.block.total - 4) c.args.window.now c.skip.new.self true d asked)
    (ReachesTo-need 4 c.in_ok-need.field-0 c.skip.new.self c.need.new.self c.in_ok-need.ensures.answer
    c.in_ok-need.ensures.same c.in_ok-need.ensures.asked))
