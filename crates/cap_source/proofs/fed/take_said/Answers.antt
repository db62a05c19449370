use Rattle.std.proofs.Common.{refl, sym, subst}
use Rattle.std.specs.Prelude.{Result}
use Rattle.cap_bytes.specs.declared.faults.Fault.{Fault}
use Rattle.cap_source.specs.declared.fed.PushEvent.{PushEvent}
use Rattle.cap_source.specs.inner.FedSteps.{TakesFed, push_view}
use Rattle.cap_source.proofs.fed.take_said.Goals as goal

pub returns-in-Err-clause-step : goal.returns-in-Err-clause-step
returns-in-Err-clause-step c =
    subst (λ (r : Result PushEvent Fault). TakesFed (push_view c.args.state.now) c.args.block c.args.said r
    (push_view c.stop.new.state)) (sym c.stop.ensures.1)
    (c.in-Err.rule, c.in-Err.is, refl, c.stop.ensures.0)
