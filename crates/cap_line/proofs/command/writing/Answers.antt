use Rattle.std.proofs.Common.{codes}
use Rattle.std.proofs.lemmas.Result.{IfOk-weaker}
use Rattle.cap_line.specs.Command.{flag_rule, order_rule, out_rule, reading_app, unit_rule}
use Rattle.cap_line.proofs.Parsing.{AddsRule-is}
use Rattle.cap_line.proofs.command.writing.Goals as goal

pub returns-clause-app : goal.returns-clause-app
returns-clause-app c =
    let orders = c.order.ensures.rule in
    let units = c.unit.ensures.rule in
    let ordered = AddsRule-is c.reading-before.result c.with_argument-ordered.result _ (order_rule orders.0)
    (reading_app c.args.name.now)
    c.reading-before.ensures.app orders.2 c.with_argument-ordered.ensures.app in
    let timed = AddsRule-is c.with_argument-ordered.result c.with_argument.result _ (unit_rule units.0) _ ordered
    units.2 c.with_argument.ensures.app in
    let named = AddsRule-is c.with_argument.result c.with_argument-named.result _ out_rule _ timed c.out.ensures.rule
    c.with_argument-named.ensures.app in
    let whole = AddsRule-is c.with_argument-named.result c.with_argument-2.result _
    (flag_rule (codes "whole")) _ named c.whole.ensures.rule
    c.with_argument-2.ensures.app in
    IfOk-weaker c.with_argument-2.result _ _
    (λ r is. record {
      orders = orders.0;
      orders_are = orders.1;
      units = units.0;
      units_are = units.1;
      app_is = is;
    })
    whole
