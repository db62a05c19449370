use Rattle.std.proofs.Common.{◌≡◌, refl}
use Rattle.cap_line.specs.Command.{IsTimed, showing_app, timing_app}
use Rattle.cap_line.proofs.Parsing.{AddsRule-weaker}
use Rattle.cap_line.proofs.command.timing.Goals as goal

pub returns-clause-app : goal.returns-clause-app
returns-clause-app c =
    let name = c.args.name.now in
    let times = c.time.ensures.rule in
    AddsRule-weaker (λ app. app ≡ showing_app name) (IsTimed (timing_app name)) c.showing.result
    c.with_argument.result _ c.showing.ensures.app
    (λ app is. record { times = times.0; times_are = times.1; app_is = rw (is, times.2) refl })
    c.with_argument.ensures.app
