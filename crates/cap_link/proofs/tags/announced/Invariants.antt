use Rattle.std.proofs.Common.{◌≡◌, length}
use Rattle.cap_link.specs.Tags.{announced}
use Rattle.cap_link.proofs.tags.announced.Given as goal

abbrev pub invariant-tags : goal.invariant-tags
invariant-tags l = announced l.next l.rest ≡ announced l.kind l.bytes

abbrev pub decreases-tags : goal.decreases-tags
decreases-tags l = length l.rest
