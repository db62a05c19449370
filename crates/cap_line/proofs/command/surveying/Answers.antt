use Rattle.std.proofs.Common.{codes, subst, IfOk}
use Rattle.clap.specs.Words.{app_of, with_rule}
use Rattle.cap_line.specs.Command.{AddsRule, flag_rule, list_rule, listed_rule}
use Rattle.cap_line.proofs.Parsing.{AddsRule-behind}
use Rattle.cap_line.proofs.command.surveying.Goals as goal

pub returns-clause-app : goal.returns-clause-app
returns-clause-app c =
    let before = c.args.before in
    let named = c.with_argument-named.result in
    let listed = c.with_argument.result in
    let names = subst (λ rule. IfOk named (λ x. AddsRule before rule (app_of x))) c.names.ensures.rule
    c.with_argument-named.ensures.app in
    let list = AddsRule-behind before named listed (λ app. with_rule app (flag_rule (codes "names"))) _ list_rule names
    c.list_of_files.ensures.rule c.with_argument.ensures.app in
    AddsRule-behind before listed c.with_argument-2.result
    (λ app. with_rule (with_rule app (flag_rule (codes "names"))) list_rule) _ listed_rule list
    c.listed_files.ensures.rule c.with_argument-2.ensures.app
