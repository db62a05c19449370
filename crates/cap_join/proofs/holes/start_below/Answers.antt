use Rattle.std.proofs.Common.{◌<◌, ◌≤◌, length, arith}
use Rattle.cap_join.specs.Holes.{word_at}
use Rattle.cap_join.proofs.Punching.{HasHoles-first}
use Rattle.cap_join.proofs.Cursors.{Begins-block, IsBefore-first, Begins-below, IsChain-unique}
use Rattle.cap_join.proofs.holes.start_below.Goals as goal

pub lies_below-requires : goal.lies_below-requires
lies_below-requires c =
    λ lt. grind (
      arith,
      Begins-block,
      c.requires.holes.spans,
      c.requires.holes.chain,
      c.requires.cursor,
      c.requires.within,
      c.requires.short,
    )

pub returns-then-lies_below : goal.returns-then-lies_below
returns-then-lies_below c = grind (arith, IsChain-unique, Begins-below)

pub lies_below-requires-2 : goal.lies_below-requires-2
lies_below-requires-2 c = λ lt.
    let first = HasHoles-first c.args.bytes.now (length c.args.bytes.now) c.args.holes.first c.requires.holes
    (omega (arith, c.requires.within, c.requires.short)) in
    omega (arith, first.block, first.within)

pub returns-then-lies_below-2 : goal.returns-then-lies_below-2
returns-then-lies_below-2 c =
    let below : (c.args.holes.first < c.args.below)
    × (word_at c.args.bytes.now c.args.holes.first ≤ c.args.below) =
    c.lies_below-2.ensures c.if-lies_below-2.true in
    IsBefore-first c.args.bytes.now c.args.holes.first c.args.below
    (omega (arith, c.requires.within, c.requires.short)) below.0 below.1
