use Rattle.std.proofs.Common.{refl}
use Rattle.cap_source.proofs.FedBlockSteps.{first-steps}
use Rattle.cap_source.specs.inner.FedSteps.{push_view}
use Rattle.cap_source.proofs.fed.step_first.Goals as goal

pub returns-clause-step : goal.returns-clause-step
returns-clause-step c = first-steps (push_view c.args.state.now) _ c.args.bytes.now c.step_block.result
    (push_view c.step_block.new.state) c.requires.start c.requires.pcapng refl c.step_block.ensures.step
