use Rattle.std.proofs.Common.{sym, ◌∙◌}
use Rattle.std.proofs.lemmas.Result.{err_from_is_err_and}
use Rattle.cap_source.proofs.Options.{read_none, read_fault, read_option}
use Rattle.cap_source.proofs.interfaces.time_base_of.Goals as goal

pub returns-in_err-base-in-Ok : goal.returns-in_err-base-in-Ok
returns-in_err-base-in-Ok c =
    let steps = rw c.in-Ok.is at c.in-Some.ensures.steps in
    let fault = err_from_is_err_and c.from_residual.result c.from_residual.ensures.1 in
    let read = read_option c.args.order c.loop-option.base (c.in-Ok.code, c.in-Ok.value.now) _ _ _ steps
    (sym c.with_option.ensures ∙ c.in_err-base-in-Ok.was) in
    rw (fault.1, fault.2) (sym read ∙ c.loop-option.invariant.2)

pub loop-option-preserved : goal.loop-option-preserved
loop-option-preserved c =
    let steps = rw c.in-Ok.is at c.in-Some.ensures.steps in
    let read = read_option c.args.order c.loop-option.base (c.in-Ok.code, c.in-Ok.value.now) _ _ _ steps
    (sym c.with_option.ensures ∙ c.in_ok-base-in-Ok.was) in
    (tt, tt, sym read ∙ c.loop-option.invariant.2)

pub returns-in-Err : goal.returns-in-Err
returns-in-Err c =
    let steps = rw c.in-Err.is at c.in-Some.ensures.steps in
    sym (read_fault c.args.order c.loop-option.base c.in-Err.rule _ _ steps) ∙ c.loop-option.invariant.2

pub returns : goal.returns
returns c = sym (read_none c.args.order c.loop-option.base _ c.in-None.ensures.steps.0) ∙ c.loop-option.invariant.2
