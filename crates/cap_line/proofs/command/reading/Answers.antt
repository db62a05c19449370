use Rattle.std.proofs.Common.{codes}
use Rattle.cap_line.specs.Command.{cutting_app, flag_rule}
use Rattle.cap_line.proofs.Parsing.{AddsRule-is}
use Rattle.cap_line.proofs.command.reading.Goals as goal

pub returns-clause-app : goal.returns-clause-app
returns-clause-app c =
    AddsRule-is c.cutting.result c.with_argument.result _ (flag_rule (codes "explain"))
    (cutting_app c.args.name.now) c.cutting.ensures.app
    c.explain.ensures.rule c.with_argument.ensures.app
