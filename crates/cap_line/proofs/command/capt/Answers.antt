use Rattle.cap_line.proofs.Parsing.{IsCapt-added}
use Rattle.cap_line.proofs.command.capt.Goals as goal

pub returns : goal.returns
returns c =
    IsCapt-added c.printing.result c.convert.result c.merge.result c.join.result c.with_subcommand-capt.result
    c.with_subcommand-capt-2.result
    c.with_subcommand.result c.printing.ensures c.convert.ensures.app c.merge.ensures.app c.join.ensures.app
    c.with_subcommand-capt.ensures
    c.with_subcommand-capt-2.ensures c.with_subcommand.ensures
