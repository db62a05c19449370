use Rattle.std.proofs.Common.{◌++◌, ap, ◌∙◌, arith}
use Rattle.std.proofs.lemmas.Result.{err_from_is_err_and}
use Rattle.capt_c.proofs.JobBlocks.{passed-fewer, passed-number, passed-place, steps-block-end, steps-block-fault}
use Rattle.capt_c.proofs.JobBlocks.{steps-block-kept, steps-block-more}
use Rattle.capt_c.proofs.job_blocks.step_blocks.Goals as goal

pub returns-in_err-block-clause-stands : goal.returns-in_err-block-clause-stands
returns-in_err-block-clause-stands g c = c.in_err-block.ensures.stands c.args.number.now c.requires

pub returns-in_err-block-clause-step : goal.returns-in_err-block-clause-step
returns-in_err-block-clause-step g c =
    let p = err_from_is_err_and c.from_residual.result c.from_residual.ensures.1 in
    rw (p.1, p.2) (steps-block-fault c.args.form c.args.number.now c.args.text.now.items c.args.reader.now
    c.peek_block.new.reader c.args.next.now c.peek_block.new.next c.in_err-block.field-0.0
    (c.in_err-block.ensures.peeks c.args.form c.args.number.now))

pub returns-in_err-extend_from_slice-in-Some-clause-stands : goal.returns-in_err-extend_from_slice-in-Some-clause-stands
returns-in_err-extend_from_slice-in-Some-clause-stands g c =
    c.in_ok-block.ensures.stands c.args.number.now c.requires

pub returns-in_err-extend_from_slice-in-Some-clause-step : goal.returns-in_err-extend_from_slice-in-Some-clause-step
returns-in_err-extend_from_slice-in-Some-clause-step g c =
    let r = c.from_residual-in_err-extend_from_slice-in-Some in
    let p = err_from_is_err_and r.result r.ensures.1 in
    let peeks = rw c.in-Some.is at (c.in_ok-block.ensures.peeks c.args.form c.args.number.now) in
    rw (p.1, p.2) (steps-block-kept c.args.form c.args.number.now c.args.text.now.items
    c.extend_from_slice.new.self.items c.args.reader.now c.peek_block.new.reader c.args.next.now
    c.peek_block.new.next c.in-Some.block peeks c.in_err-extend_from_slice-in-Some.ensures.items)

pub overflow_add-number : goal.overflow_add-number
overflow_add-number g c =
    let stands = c.in_ok-block.ensures.stands c.args.number.now c.requires in
    let peeks = rw c.in-Some.is at (c.in_ok-block.ensures.peeks c.args.form c.args.number.now) in
    let most = passed-number c.peek_block.new.reader c.peek_block.new.next c.in-Some.block c.args.number.now stands
    peeks.0 in
    omega (arith, most)

pub returns-in_ok-extend_from_slice-in-Some-clause-stands : goal.returns-in_ok-extend_from_slice-in-Some-clause-stands
returns-in_ok-extend_from_slice-in-Some-clause-stands g c =
    let stands = c.in_ok-block.ensures.stands c.args.number.now c.requires in
    let peeks = rw c.in-Some.is at (c.in_ok-block.ensures.peeks c.args.form c.args.number.now) in
    passed-place c.peek_block.new.reader c.peek_block.new.next c.in-Some.block c.args.number.now stands peeks.0

pub returns-in_ok-extend_from_slice-in-Some-clause-step : goal.returns-in_ok-extend_from_slice-in-Some-clause-step
returns-in_ok-extend_from_slice-in-Some-clause-step g c =
    let peeks = rw c.in-Some.is at (c.in_ok-block.ensures.peeks c.args.form c.args.number.now) in
    steps-block-more c.args.form c.args.number.now c.args.text.now.items c.extend_from_slice.new.self.items
    c.args.reader.now c.peek_block.new.reader c.args.next.now c.peek_block.new.next c.in-Some.block peeks
    (c.in_ok-extend_from_slice-in-Some.ensures.items ∙ ap (λ l. c.args.text.now.items ++ l)
    (c.as_slice.ensures.value ∙ c.write_block.ensures))

pub returns-in_ok-extend_from_slice-in-Some-clause-fewer : goal.returns-in_ok-extend_from_slice-in-Some-clause-fewer
returns-in_ok-extend_from_slice-in-Some-clause-fewer g c = λ more.
    let peeks = rw c.in-Some.is at (c.in_ok-block.ensures.peeks c.args.form c.args.number.now) in
    passed-fewer c.peek_block.new.reader c.peek_block.new.next c.in-Some.block peeks.0 _ c.in_ok-block.ensures.left

pub returns-in-None-clause-stands : goal.returns-in-None-clause-stands
returns-in-None-clause-stands g c = c.in_ok-block.ensures.stands c.args.number.now c.requires

pub returns-in-None-clause-step : goal.returns-in-None-clause-step
returns-in-None-clause-step g c =
    steps-block-end c.args.form c.args.number.now c.args.text.now.items c.args.reader.now c.peek_block.new.reader
    c.args.next.now c.peek_block.new.next (rw c.in-None.is at (c.in_ok-block.ensures.peeks c.args.form
    c.args.number.now))
