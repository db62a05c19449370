use Rattle.std.proofs.Common.{◌+◌, Some, ap, refl, sym, ◌∙◌}
use Rattle.cap_blocks.specs.Grammar.{is_known_kind}
use Rattle.cap_blocks.proofs.Finding.{SeesBlock-passed}
use Rattle.cap_blocks.proofs.Looking.{IsHeader-parsed}
use Rattle.cap_blocks.proofs.readers.take_packet.Goals as goal

pub body_rule-requires-clause-header : goal.body_rule-requires-clause-header
body_rule-requires-clause-header g c =
    IsHeader-parsed (Some c.in-Some.order) (c.offset.result + c.args.given) c.split_at.result.1.now
    c.in-Some-enhanced_at.block c.in-Some-enhanced_at.ensures.header

pub returns-in-None-body_rule-clause-sees : goal.returns-in-None-body_rule-clause-sees
returns-in-None-body_rule-clause-sees g c = rw c.in-Some.is (λ tail.
    SeesBlock-passed (Some c.in-Some.order) tail c.in-Some-enhanced_at.block c.args.window.now c.pass.new.self
    c.args.given (c.offset.result + c.args.given) c.split_at.result.1.now
    c.pass.ensures.passes (rw c.bytes.ensures at c.split_at.ensures.back)
    (ap (λ n. n + c.args.given) c.offset.ensures.value)
    (c.if-not-has_buffered.ensures.0 refl).0 (c.if-not-has_buffered.ensures.0 refl).1
    c.in-Some-enhanced_at.ensures.header
    (ap is_known_kind c.in-Some-enhanced_at.ensures.kind) c.if-bytes-block.false
    (sym c.in-None-body_rule.is ∙ c.body_rule.ensures))
