use Rattle.std.proofs.Common.{codes}
use Rattle.cap_line.specs.Command.{timing_app}
use Rattle.cap_line.proofs.Parsing.{skips}
use Rattle.cap_line.proofs.command.info.Goals as goal

pub returns-clause-app : goal.returns-clause-app
returns-clause-app c =
    skips (timing_app (codes "info")) c.timing-before.result c.skipping.result c.timing-before.ensures.app
    c.skipping.ensures.app
