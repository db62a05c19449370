use Rattle.std.proofs.lemmas.Result.{err_from_is_err_and}
use Rattle.capt_c.proofs.JobBlocks.{peeks-fault, peeks-taken}
use Rattle.capt_c.proofs.job_blocks.peek_block.Goals as goal

pub returns-in_err-next-clause-peeks : goal.returns-in_err-next-clause-peeks
returns-in_err-next-clause-peeks g c = λ form number.
    let p = err_from_is_err_and c.from_residual.result c.from_residual.ensures.1 in
    let stands = c.requires.1 in
    let e = c.in_err-next.ensures in
    rw (p.1, p.2) (peeks-fault form number c.args.reader.now c.take_block.new.reader c.args.next.now
    c.in_err-next.field-0.0 c.in_default.is stands.reads e.answer (e.items stands.told))

pub returns-clause-peeks : goal.returns-clause-peeks
returns-clause-peeks g c = λ form number.
    let e = c.in_ok-next.ensures in
    peeks-taken form number c.args.reader.now c.take_block.new.reader c.args.next.now c.in_ok-next.field-0
    c.in_default.is (e.items c.requires.1.told)
