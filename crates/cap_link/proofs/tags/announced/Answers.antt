use Rattle.std.proofs.Common.{sym, ◌∙◌, arith}
use Rattle.cap_link.proofs.TagSteps.{announced-tag, announced-ended, announced-last}
use Rattle.cap_link.proofs.tags.announced.Goals as goal

pub returns-then-rest-lt-TAG : goal.returns-then-rest-lt-TAG
returns-then-rest-lt-TAG c = grind (arith, announced-ended)

pub tags-preserved : goal.tags-preserved
tags-preserved c = grind (arith, announced-tag)

pub returns : goal.returns
returns c = sym (announced-last _ _ (sym c.tags-test.ensures)) ∙ c.tags.invariant
