use Rattle.std.proofs.Common.{codes, subst, IfOk}
use Rattle.clap.specs.Words.{app_of, with_rule}
use Rattle.cap_line.specs.Command.{AddsRule, files_rule, flag_rule}
use Rattle.cap_line.proofs.Parsing.{AddsRule-behind}
use Rattle.cap_line.proofs.command.skipping.Goals as goal

pub returns-clause-app : goal.returns-clause-app
returns-clause-app c =
    let before = c.args.before in
    let skipped = c.with_argument-skipped.result in
    let flagged = subst (λ rule. IfOk skipped (λ x. AddsRule before rule (app_of x))) c.skip_refused.ensures.rule
    c.with_argument-skipped.ensures.app in
    AddsRule-behind before skipped c.with_argument.result (λ app. with_rule app (flag_rule (codes "skip-refused"))) _
    files_rule flagged c.files.ensures.rule c.with_argument.ensures.app
