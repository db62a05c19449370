use Rattle.cap_join.proofs.Cursors.{Begins-trans}
use Rattle.std.proofs.Common.{arith}
use Rattle.cap_join.proofs.Reading.{HasHoles-begins}
use Rattle.cap_join.proofs.holes.last_before.Goals as goal

pub last_below-requires-clause-holes : goal.last_below-requires-clause-holes
last_below-requires-clause-holes c =
    grind (
      arith,
      HasHoles-begins,
      c.requires.holes.spans,
      c.requires.holes.chain,
      c.in-Some.ensures.begins,
      c.requires.short,
    )

pub returns-in-Some : goal.returns-in-Some
returns-in-Some c = grind (arith, Begins-trans)
