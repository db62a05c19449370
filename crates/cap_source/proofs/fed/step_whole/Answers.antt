use Rattle.std.proofs.Common.{Some, ap, sym, ◌∙◌}
use Rattle.cap_blocks.proofs.Looking.{IsHeader-parsed}
use Rattle.cap_blocks.proofs.Whole.{fault-cut, fault-whole}
use Rattle.cap_bytes.specs.declared.faults.Rule.TheVariants.{Cut}
use Rattle.cap_source.proofs.FedShort.{whole-few}
use Rattle.cap_source.proofs.FedStops.{broken-keeps, broken-sound}
use Rattle.cap_source.proofs.FedBlockSteps.{block-breaks, header-facts, taken}
use Rattle.cap_source.specs.inner.FedSteps.{push_view}
use Rattle.cap_source.proofs.fed.step_whole.Goals as goal

pub returns-then-bytes-block-clause-step : goal.returns-then-bytes-block-clause-step
returns-then-bytes-block-clause-step c =
    block-breaks (push_view c.args.state.now) c.args.section c.args.bytes.now c.requires.stage Cut
    c.break_off.result (push_view c.break_off.new.state)
    (fault-cut c.args.section c.args.state.now.offset c.args.bytes.now c.args.block c.requires.header
    c.if-bytes-block.true)
    (λ cut. whole-few c.args.section c.args.state.now.offset c.args.bytes.now c.args.block
    (λ k. (c.type_inv.bytes k).fits)
    c.requires.header c.requires.read (fault-cut c.args.section c.args.state.now.offset c.args.bytes.now c.args.block
    c.requires.header c.if-bytes-block.true))
    (rw c.is_some-inside.ensures at c.break_off.ensures)

pub body_rule-requires-clause-header : goal.body_rule-requires-clause-header
body_rule-requires-clause-header c =
    IsHeader-parsed c.args.section c.args.state.now.offset c.args.bytes.now c.args.block c.requires.header

pub take_block-requires-clause-begins : goal.take_block-requires-clause-begins
take_block-requires-clause-begins c =
    (header-facts c.args.section c.args.state.now.offset c.args.bytes.now c.args.block c.requires.header).0

pub take_block-requires-clause-limit : goal.take_block-requires-clause-limit
take_block-requires-clause-limit c =
    (header-facts c.args.section c.args.state.now.offset c.args.bytes.now c.args.block c.requires.header).1

pub take_block-requires-clause-allowed : goal.take_block-requires-clause-allowed
take_block-requires-clause-allowed c =
    (header-facts c.args.section c.args.state.now.offset c.args.bytes.now c.args.block c.requires.header).2

pub returns-in-Some-clause-step : goal.returns-in-Some-clause-step
returns-in-Some-clause-step c =
    block-breaks (push_view c.args.state.now) c.args.section c.args.bytes.now c.requires.stage c.in-Some.rule
    c.break_off-in-Some.result (push_view c.break_off-in-Some.new.state)
    (fault-whole c.args.section c.args.state.now.offset c.args.bytes.now c.args.block (Some c.in-Some.rule)
    c.requires.header (sym c.body_rule.ensures ∙ c.in-Some.is))
    (λ cut. whole-few c.args.section c.args.state.now.offset c.args.bytes.now c.args.block
    (λ k. (c.type_inv.bytes k).fits)
    c.requires.header c.requires.read
    (fault-whole c.args.section c.args.state.now.offset c.args.bytes.now c.args.block (Some c.in-Some.rule)
    c.requires.header (sym c.body_rule.ensures ∙ c.in-Some.is) ∙ ap Some cut))
    (rw c.is_some-inside.ensures at c.break_off-in-Some.ensures)

pub returns-in-Some-clause-keeps : goal.returns-in-Some-clause-keeps
returns-in-Some-clause-keeps c = broken-keeps _ _ _ _ _ _ c.break_off-in-Some.ensures

pub returns-in-Some-clause-sound : goal.returns-in-Some-clause-sound
returns-in-Some-clause-sound c = broken-sound _ _ _ _ _ _ c.requires.sound c.break_off-in-Some.ensures

pub returns-in-None-clause-step : goal.returns-in-None-clause-step
returns-in-None-clause-step c =
    taken (push_view c.args.state.now) c.args.section c.args.bytes.now c.requires.stage c.args.block c.requires.header
    c.requires.sound.uncounted c.if-bytes-block.false (sym c.body_rule.ensures ∙ c.in-None.is) c.take_block.result
    (push_view c.take_block.new.state) c.take_block.ensures.step

pub take_block-requires-clause-least : goal.take_block-requires-clause-least
take_block-requires-clause-least c =
    (header-facts c.args.section c.args.state.now.offset c.args.bytes.now c.args.block c.requires.header).3
