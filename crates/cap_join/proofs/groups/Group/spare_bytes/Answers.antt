use Rattle.std.proofs.Common.{arith, length-take}
use Rattle.cap_join.proofs.groups.Group.spare_bytes.Goals as goal

pub returns-clause-value : goal.returns-clause-value
returns-clause-value c =
    grind (arith, c.self.invariant.held, c.self.view_is, length-take c.self.inside.part.held c.self.inside.buffer.items)
