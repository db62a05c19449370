use Rattle.std.proofs.Common.{arith}
use Rattle.std.proofs.lemmas.Result.{err_from_is_err_and}
use Rattle.cap_bytes.proofs.Reach.{Reaches-need, ReachesTo-need}
use Rattle.cap_pcap.proofs.Looking.{SeesHeader-parsed, SeesStop-header}
use Rattle.cap_pcap.proofs.headers.look_for_header.Goals as goal

pub returns-in-Ok-clause-answer : goal.returns-in-Ok-clause-answer
returns-in-Ok-clause-answer g c = grind (arith, SeesHeader-parsed)

pub returns-in-Err-clause-answer : goal.returns-in-Err-clause-answer
returns-in-Err-clause-answer g c =
    let parsed = rw (c.in-Err.is, c.bytes.ensures, c.offset-offset.ensures.value) at c.find_header.ensures.parses in
    rw (c.file-file.ensures, c.offset-offset.ensures.value)
    (λ tail. SeesStop-header c.in_ok-need.field-0 tail c.args.window.now c.need.new.self c.in-Err.rule
    c.in_ok-need.ensures.answer parsed)

pub returns-in_err-need-clause-reaches : goal.returns-in_err-need-clause-reaches
returns-in_err-need-clause-reaches g c = grind (arith, err_from_is_err_and, Reaches-need)

pub returns-in-Ok-clause-reaches : goal.returns-in-Ok-clause-reaches
returns-in-Ok-clause-reaches g c =
    ReachesTo-need 24 c.in_ok-need.field-0 c.args.window.now c.need.new.self c.in_ok-need.ensures.answer
    c.in_ok-need.ensures.same c.in_ok-need.ensures.asked

pub returns-in-Err-clause-reaches : goal.returns-in-Err-clause-reaches
returns-in-Err-clause-reaches g c =
    ReachesTo-need 24 c.in_ok-need.field-0 c.args.window.now c.need.new.self c.in_ok-need.ensures.answer
    c.in_ok-need.ensures.same c.in_ok-need.ensures.asked
