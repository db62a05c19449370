use Rattle.std.proofs.Common.{arith}
use Rattle.std.proofs.lemmas.Result.{err_from_is_err_and}
use Rattle.cap_blocks.proofs.Finding.{SeesBlock-both, SeesStop-body, FailsBy-body, Reaches-both, Reaches-header}
use Rattle.cap_blocks.proofs.Finding.{Reaches-body}
use Rattle.cap_blocks.proofs.readers.look_for_block.Goals as goal

pub returns-in-None-clause-answer : goal.returns-in-None-clause-answer
returns-in-None-clause-answer g c =
    let header = rw c.in-Ok.is at c.in_ok-block.ensures.answer in
    let body = rw c.in-None.is at c.in_ok-look_at_body.ensures.answer in
    SeesBlock-both c.args.section c.args.tail c.in-Ok.block c.args.window.now c.look_at_header.new.window
    c.look_at_body.new.window
    header c.in_ok-block.ensures.stays.told body

pub returns-in-Some-clause-answer : goal.returns-in-Some-clause-answer
returns-in-Some-clause-answer g c =
    let header = rw c.in-Ok.is at c.in_ok-block.ensures.answer in
    let body = rw c.in-Some.is at c.in_ok-look_at_body.ensures.answer in
    rw (c.by.ensures, c.is_some.ensures, c.file-file.ensures, c.read_to.ensures, header.header.offset_is)
    (SeesStop-body c.args.section c.args.tail c.in-Ok.block c.in-Some.rule c.args.window.now c.look_at_header.new.window
    c.look_at_body.new.window
    header c.in_ok-block.ensures.stays.told body)

pub returns-in_err-look_at_body-clause-answer : goal.returns-in_err-look_at_body-clause-answer
returns-in_err-look_at_body-clause-answer g c = grind (arith, err_from_is_err_and, FailsBy-body)

pub returns-in_err-block-clause-reaches : goal.returns-in_err-block-clause-reaches
returns-in_err-block-clause-reaches g c = grind (arith, err_from_is_err_and, Reaches-header)

pub returns-in_err-look_at_body-clause-reaches : goal.returns-in_err-look_at_body-clause-reaches
returns-in_err-look_at_body-clause-reaches g c = grind (arith, err_from_is_err_and, Reaches-body)

pub returns-in-None-clause-reaches : goal.returns-in-None-clause-reaches
returns-in-None-clause-reaches g c =
    let header = rw c.in-Ok.is at c.in_ok-block.ensures.answer in
    Reaches-both c.args.section c.in-Ok.block c.args.window.now c.look_at_header.new.window c.look_at_body.new.window
    header c.in_ok-block.ensures.stays
    c.in_ok-block.ensures.reaches c.in_ok-look_at_body.ensures.reaches
