use Rattle.std.proofs.Common.{codes}
use Rattle.cap_line.specs.Command.{reading_app, flag_rule}
use Rattle.cap_line.proofs.Parsing.{AddsRule-is}
use Rattle.cap_line.proofs.command.showing.Goals as goal

pub returns-clause-app : goal.returns-clause-app
returns-clause-app c =
    AddsRule-is c.reading.result c.with_argument.result _ (flag_rule (codes "json"))
    (reading_app c.args.name.now) c.reading.ensures.app
    c.json.ensures.rule c.with_argument.ensures.app
