use Rattle.std.proofs.Common.{codes}
use Rattle.cap_line.specs.Command.{data_rule, file_rule, flag_rule, timing_app}
use Rattle.cap_line.proofs.Parsing.{IsTimed-more}
use Rattle.cap_line.proofs.command.list.Goals as goal

pub returns-clause-app : goal.returns-clause-app
returns-clause-app c =
    let classed = IsTimed-more (timing_app (codes "list")) c.timing-before.result c.with_argument.result _
    (flag_rule (codes "class")) c.timing-before.ensures.app c.class.ensures.rule
    c.with_argument.ensures.app in
    let read = IsTimed-more _ c.with_argument.result c.with_argument-classed.result _ (flag_rule (codes "ipv6")) classed
    c.ipv6.ensures.rule c.with_argument-classed.ensures.app in
    let shown = IsTimed-more _ c.with_argument-classed.result c.with_argument-2.result _ data_rule read
    c.data.ensures.rule c.with_argument-2.ensures.app in
    IsTimed-more _ c.with_argument-2.result c.with_argument-3.result _ file_rule shown c.file.ensures.rule
    c.with_argument-3.ensures.app
