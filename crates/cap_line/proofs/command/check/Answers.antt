use Rattle.std.proofs.Common.{codes, refl}
use Rattle.std.proofs.lemmas.Result.{IfOk-weaker}
use Rattle.clap.specs.Words.{with_rule}
use Rattle.cap_line.specs.Command.{IsTimed, flag_rule, timing_app}
use Rattle.cap_line.proofs.Parsing.{IsTimed-more, surveys}
use Rattle.cap_line.proofs.command.check.Goals as goal

pub returns-clause-app : goal.returns-clause-app
returns-clause-app c =
    let digesting = IsTimed-more (timing_app (codes "check")) c.timing-before.result c.with_argument.result _
    (flag_rule (codes "digest")) c.timing-before.ensures.app c.digests.ensures.rule c.with_argument.ensures.app in
    IfOk-weaker c.surveying.result _ _ (λ app is. record {
      times = is.1.times;
      times_are = is.1.times_are;
      app_is = rw (is.2, is.1.app_is) refl;
    })
    (surveys (IsTimed (λ times. with_rule (timing_app (codes "check") times) (flag_rule (codes "digest"))))
    c.with_argument.result c.surveying.result digesting c.surveying.ensures.app)
