use Rattle.std.proofs.Common.{ℕ, ◌+◌, ◌-◌, Some, length, refl, sym, ap, ◌∙◌, arith}
use Rattle.cap_source.proofs.FedBlockSteps.{skip-cut, skip-on, skip-passes, skip-trailer}
use Rattle.cap_source.specs.declared.fed.Stage.TheVariants.{Blocks}
use Rattle.cap_source.specs.inner.FedSteps.{push_view}
use Rattle.cap_source.proofs.fed.step_skip.Goals as goal

pub returns-then-passed-gt0-clause-step : goal.returns-then-passed-gt0-clause-step
returns-then-passed-gt0-clause-step c =
    skip-on (push_view c.args.state.now) c.args.block c.args.left c.args.bytes.now c.requires.stage
    c.passed_of-passed.result _ c.requires.sound c.if-passed-gt0.true c.passed_of-passed.ensures refl

pub returns-then-bytes-lt4-clause-step : goal.returns-then-bytes-lt4-clause-step
returns-then-bytes-lt4-clause-step c =
    skip-cut (push_view c.args.state.now) c.args.block c.args.left c.args.bytes.now c.requires.stage c.requires.sound
    (sym c.passed_of-passed.ensures ∙ grind (arith, c.if-passed-gt0.false)) _ c.break_skip.result
    (push_view c.break_skip.new.state) c.if-bytes-lt4.true
    (ap (λ (n : ℕ). n - 4 - c.args.left + length c.args.bytes.now) c.from.ensures) c.break_skip.ensures

pub returns-then-u32_at-block-clause-step : goal.returns-then-u32_at-block-clause-step
returns-then-u32_at-block-clause-step c =
    skip-trailer (push_view c.args.state.now) c.args.block c.args.left c.args.bytes.now c.requires.stage
    c.requires.sound (sym c.passed_of-passed.ensures ∙ grind (arith, c.if-passed-gt0.false)) _
    c.break_skip-then-u32_at-block.result (push_view c.break_skip-then-u32_at-block.new.state) c.if-bytes-lt4.false
    (λ is. c.if-u32_at-block.true (c.u32_at.ensures ∙ is)) c.break_skip-then-u32_at-block.ensures

pub returns-clause-step : goal.returns-clause-step
returns-clause-step c =
    skip-passes (push_view c.args.state.now) c.args.block c.args.left c.args.bytes.now c.requires.stage
    c.requires.sound (sym c.passed_of-passed.ensures ∙ grind (arith, c.if-passed-gt0.false)) _ c.if-bytes-lt4.false
    (sym c.u32_at.ensures ∙ c.if-u32_at-block.false)
    (λ i. record (push_view c.args.state.now) {
      offset = c.args.state.now.offset + c.from-2.ensures i;
      stage = Blocks (Some c.args.block.order);
      progress = c.skip_block.ensures i;
    })
