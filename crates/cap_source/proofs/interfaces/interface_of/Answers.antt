use Rattle.std.proofs.Common.{◌∙◌}
use Rattle.cap_source.proofs.Options.{interface_refused, interface_read}
use Rattle.cap_source.proofs.interfaces.interface_of.Goals as goal

pub returns-then-before-ge-INTERFACE_LIMIT : goal.returns-then-before-ge-INTERFACE_LIMIT
returns-then-before-ge-INTERFACE_LIMIT c = search (interface_refused)

pub returns : goal.returns
returns c = c.read_interface.ensures
    ∙ interface_read c.args.before c.args.order c.args.body.now c.if-before-ge-INTERFACE_LIMIT.false
