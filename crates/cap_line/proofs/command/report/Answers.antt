use Rattle.std.proofs.Common.{codes}
use Rattle.clap.specs.Words.{with_rule}
use Rattle.cap_line.specs.Command.{flag_rule, timing_app, top_rule}
use Rattle.cap_line.proofs.Parsing.{IsTimed-more, skips}
use Rattle.cap_line.proofs.command.report.Goals as goal

pub returns-clause-app : goal.returns-clause-app
returns-clause-app c =
    let topped = IsTimed-more (timing_app (codes "report")) c.timing-before.result c.with_argument-topped.result _
    top_rule c.timing-before.ensures.app c.top.ensures.rule c.with_argument-topped.ensures.app in
    let read = IsTimed-more _ c.with_argument-topped.result c.with_argument.result _ (flag_rule (codes "ipv6")) topped
    c.ipv6.ensures.rule c.with_argument.ensures.app in
    skips (λ times. with_rule (with_rule (timing_app (codes "report") times) top_rule) (flag_rule (codes "ipv6")))
    c.with_argument.result c.skipping.result read c.skipping.ensures.app
