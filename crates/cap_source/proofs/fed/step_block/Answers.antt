use Rattle.std.proofs.Common.{◌-◌, min, length, is_some, Ok, Some, ap, refl, sym, ◌∙◌, subst}
use Rattle.cap_blocks.specs.Grammar.{is_known_kind}
use Rattle.cap_blocks.proofs.Faults.{block_fault-header}
use Rattle.cap_source.proofs.FedShort.{block-header-few}
use Rattle.cap_source.proofs.FedStops.{broken-keeps, broken-sound}
use Rattle.cap_source.proofs.FedBlockSteps.{block-breaks, not-read, skip-begins, skip-least, skip-sound}
use Rattle.cap_source.specs.declared.fed.PushEvent.{PushEvent}
use Rattle.cap_source.specs.inner.FedSteps.{StepsFed, push_view}
use Rattle.cap_source.proofs.fed.step_block.Goals as goal

pub returns-in-Err-clause-step : goal.returns-in-Err-clause-step
returns-in-Err-clause-step c =
    block-breaks (push_view c.args.state.now) c.args.section c.args.bytes.now c.requires.stage c.in-Err.rule
    c.break_off.result (push_view c.break_off.new.state)
    (block_fault-header c.args.section c.args.state.now.offset c.args.bytes.now c.in-Err.rule c.in-Err.ensures)
    (λ cut. block-header-few c.args.section c.args.state.now.offset c.args.bytes.now (c.in-Err.ensures ∙ ap Some cut))
    (rw c.is_some.ensures at c.break_off.ensures)

pub returns-in-Err-clause-keeps : goal.returns-in-Err-clause-keeps
returns-in-Err-clause-keeps c = broken-keeps _ _ _ _ _ _ c.break_off.ensures

pub returns-in-Err-clause-sound : goal.returns-in-Err-clause-sound
returns-in-Err-clause-sound c = broken-sound _ _ _ _ _ _ c.requires.sound c.break_off.ensures

pub begin_skip-requires : goal.begin_skip-requires
begin_skip-requires c =
    let h = not-read (is_known_kind c.in-Ok.block.kind) (is_some c.args.section)
    (sym c.is_read_whole.ensures ∙ c.if-is_read_whole.false) in
    skip-least (push_view c.args.state.now) c.args.section c.args.bytes.now c.requires.stage c.in-Ok.block
    c.in-Ok.ensures c.requires.sound.uncounted h.0 h.1

pub returns-else-is_read_whole-clause-step : goal.returns-else-is_read_whole-clause-step
returns-else-is_read_whole-clause-step c =
    let h = not-read (is_known_kind c.in-Ok.block.kind) (is_some c.args.section)
    (sym c.is_read_whole.ensures ∙ c.if-is_read_whole.false) in
    let n = min (c.in-Ok.block.total - 4) (length c.args.bytes.now) in
    subst (λ (s : PushEvent). StepsFed (push_view c.args.state.now) c.args.bytes.now (Ok s)
    (push_view c.begin_skip.new.state)) (sym c.begin_skip.ensures.step)
    (skip-begins (push_view c.args.state.now) c.args.section c.args.bytes.now c.requires.stage c.in-Ok.block
    c.in-Ok.ensures c.requires.sound.uncounted h.0 h.1 n (push_view c.begin_skip.new.state) refl
    c.begin_skip.ensures.stage)

pub returns-else-is_read_whole-clause-sound : goal.returns-else-is_read_whole-clause-sound
returns-else-is_read_whole-clause-sound c =
    let h = not-read (is_known_kind c.in-Ok.block.kind) (is_some c.args.section)
    (sym c.is_read_whole.ensures ∙ c.if-is_read_whole.false) in
    skip-sound (push_view c.args.state.now) c.args.section c.args.bytes.now c.requires.stage c.in-Ok.block
    c.in-Ok.ensures c.requires.sound.uncounted h.0 h.1 _ (push_view c.begin_skip.new.state) c.requires.sound
    c.begin_skip.ensures.stage
