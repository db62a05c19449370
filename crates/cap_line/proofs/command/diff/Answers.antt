use Rattle.std.proofs.Common.{codes}
use Rattle.std.proofs.lemmas.Result.{IfOk-weaker}
use Rattle.cap_line.specs.Command.{data_rule, ignore_rule, required_rule, timing_app}
use Rattle.cap_line.proofs.Parsing.{IsTimed-more}
use Rattle.cap_line.proofs.command.diff.Goals as goal

pub returns-clause-app : goal.returns-clause-app
returns-clause-app c =
    let kinds = c.ignore.ensures.rule in
    let shown = IsTimed-more (timing_app (codes "diff")) c.timing-before.result c.with_argument-shown.result _
    data_rule c.timing-before.ensures.app c.data.ensures.rule c.with_argument-shown.ensures.app in
    let ignoring = IsTimed-more _ c.with_argument-shown.result c.with_argument-ignoring.result _ (ignore_rule kinds.0)
    shown kinds.2 c.with_argument-ignoring.ensures.app in
    let first = IsTimed-more _ c.with_argument-ignoring.result c.with_argument.result _ (required_rule (codes "A"))
    ignoring c.required-first.ensures.rule c.with_argument.ensures.app in
    IfOk-weaker c.with_argument-2.result _ _ (λ app is. record { kinds = kinds.0; kinds_are = kinds.1; is_timed = is })
    (IsTimed-more _ c.with_argument.result c.with_argument-2.result _ (required_rule (codes "B")) first
    c.required.ensures.rule c.with_argument-2.ensures.app)
