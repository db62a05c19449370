use Rattle.std.proofs.Common.{◌≡◌, codes, refl}
use Rattle.std.proofs.lemmas.Result.{IfOk-weaker}
use Rattle.clap.specs.Words.{with_rule}
use Rattle.cap_line.specs.Command.{showing_app, verify_rule}
use Rattle.cap_line.proofs.Parsing.{AddsRule-is, surveys}
use Rattle.cap_line.proofs.command.digest.Goals as goal

pub returns-clause-app : goal.returns-clause-app
returns-clause-app c =
    let verifying = AddsRule-is c.showing-before.result c.with_argument.result _ verify_rule
    (showing_app (codes "digest")) c.showing-before.ensures.app c.verify.ensures.rule c.with_argument.ensures.app in
    IfOk-weaker c.surveying.result _ _ (λ app is. rw (is.2, is.1) refl)
    (surveys (λ app. app ≡ with_rule (showing_app (codes "digest")) verify_rule) c.with_argument.result
    c.surveying.result verifying c.surveying.ensures.app)
