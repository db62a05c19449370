use Rattle.std.proofs.Common.{ap, arith, length, length-take}
use Rattle.cap_join.specs.inner.Groups.{GroupState}
use Rattle.cap_join.proofs.groups.Group.held_bytes.Goals as goal

pub returns-clause-value : goal.returns-clause-value
returns-clause-value c =
    omega (
      arith,
      c.self.invariant.held,
      ap (λ (s : GroupState). length s.buffer) c.self.view_is,
      length-take c.self.inside.part.held c.self.inside.buffer.items,
    )
